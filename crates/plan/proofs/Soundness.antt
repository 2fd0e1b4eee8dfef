-- What holds of the patterns of every plan, from the facts that the plan carries.
use Rattle.std.proofs.Common.{◌≡◌, ℕ, zero, suc, ◌^◌, ◌<◌, ◌≤◌, false, List, [], ◌∷◌, map, length, get_or, refl, ap, ◌∙◌, arith}
use lib.Lanes.{mask_l}
use Rattle.std.proofs.lemmas.List.{map-append, length-take}
use Rattle.pattern.specs.Patterns.{admits}
use Rattle.pattern.specs.Fits.{bit, tails, rests, steps_where, admits_first, admit_of}
use Rattle.pattern.proofs.Bitwise.{bit_above, mask_l_append}
use Rattle.plan.specs.Sets.{Within}
use Rattle.plan.specs.Views.{letters_of, patterns_of, Sound}
use Rattle.plan.specs.declared.Plan.{Plan}
use Rattle.plan.proofs.Building.{length_plan}

pub at_most : (plan : Plan) → length (rests (patterns_of plan)) ≤ 64
at_most plan = omega (arith, plan.tables.counted, length-take plan.steps.count plan.steps.places, plan.steps.within)

pub sound : (plan : Plan) → Sound (letters_of plan) (patterns_of plan)
sound plan =
    record {
      some_letter = plan.alphabet.some;
      letters = plan.alphabet.few;
      patterns = omega (arith, length_plan plan, length-take plan.spans.count plan.spans.places, plan.spans.within);
      well = record { nonempty = plan.tables.nonempty; filled = plan.tables.filled; few = at_most plan };
      within = plan.tables.within;
    }

-- ---- a letter that is not one of the plan's is admitted nowhere

not_in : (K s a : ℕ) → s < 2 ^ K → K ≤ a → admits s a ≡ false
unfolding admits bit
not_in K s a h l = bit_above K s a h l

none_in : (K a : ℕ) (p : List ℕ) → K ≤ a → ((i : ℕ) → i < length p → get_or p i 0 < 2 ^ K) → mask_l (map (admits_first a) (tails p)) ≡ 0
unfolding admits_first tails
none_in K a [] l small = refl
none_in K a (s ∷ ss) l small =
    let rest : mask_l (map (admits_first a) (tails ss)) ≡ 0 = none_in K a ss l (λ i less. small (suc i) (omega arith)) in
    rw (not_in K s a (small zero (omega arith)) l, rest)

pub admit_none : (K a : ℕ) (plan : List (List ℕ)) → K ≤ a → Within K plan → admit_of plan a ≡ 0
unfolding steps_where rests
admit_none K a [] l within = refl
admit_none K a (p ∷ ps) l within =
    let rest : mask_l (map (admits_first a) (rests ps)) ≡ 0 = admit_none K a ps l (λ j. within (suc j)) in
    ap mask_l (map-append (admits_first a) (tails p) (rests ps))
    ∙ mask_l_append (map (admits_first a) (tails p)) (map (admits_first a) (rests ps))
    ∙ rw (none_in K a p l (within zero), rest) (omega arith)

pub none_admits : (plan : Plan) (a : ℕ) → letters_of plan ≤ a → admit_of (patterns_of plan) a ≡ 0
none_admits plan a h = admit_none (letters_of plan) a (patterns_of plan) h plan.tables.within
