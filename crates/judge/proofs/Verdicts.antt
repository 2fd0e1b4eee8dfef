-- What an exploration of the judging machine tells of a plan and a sheet.
use Rattle.std.proofs.Common.{◌≡◌, ℕ, ◌+◌, ◌<◌, ◌≤◌, List, ◌∷◌, reverse, length, set, subst, arith}
use Rattle.pattern.specs.Fits.{fitting}
use Rattle.automaton.specs.Machines.{Machine, run}
use Rattle.automaton.specs.Judging.{Node, judge}
use Rattle.exploration.specs.Cells.{text_at}
use Rattle.exploration.specs.Pairs.{VerdictsTell}
use Rattle.exploration.proofs.Cover.{before_wrong}
use Rattle.exploration.proofs.Pairs.{verdicts_are_right_lem}
use Rattle.plan.specs.declared.Plan.{Plan}
use Rattle.plan.specs.Views.{letters_of, patterns_of}
use Rattle.plan.proofs.Soundness.{sound}
use Rattle.sheet.specs.declared.Sheet.{Sheet}
use Rattle.sheet.specs.Views.{automaton_of}
use Rattle.judge.specs.Memory.{groups_in}
use Rattle.judge.specs.Exploring.{Completes, Fails, Overflows}
use Rattle.judge.specs.Words.{Spellable, Spelt}
use Rattle.judge.specs.Judged.{PairsHeld, Faultless, ShowsWrong}
use Rattle.judge.proofs.Letters.{longer, written_on, as_long}

module _ (plan : Plan) (sheet : Sheet) where
  abbrev M : Machine Node
  M = judge (fitting (patterns_of plan)) (automaton_of sheet)

  tell : VerdictsTell (letters_of plan) (patterns_of plan) (automaton_of sheet)
  tell = verdicts_are_right_lem (letters_of plan) (patterns_of plan) (sound plan).well (automaton_of sheet)

  short_at : (c : List ℕ) (i a : ℕ) → Fails (letters_of plan) M c i a → length (text_at (letters_of plan) c i) ≤ 64
  short_at c i a h = let m = before_wrong M.step (run M (text_at (letters_of plan) c i)) a h.first.faulty in tell.short _ m.0 h.first.lettered.1 m.1

  module _ (memory : List ℕ) {K : ℕ} {c : List ℕ} where
    pub complete : {size : ℕ} → Completes K M c size → K ≡ letters_of plan → groups_in c ≡ groups_in memory → PairsHeld plan sheet memory × Faultless plan sheet
    complete {size} h e same =
        let few : size ≤ groups_in memory = omega (arith, h.room) in
        let all = (subst (λ (k : ℕ). Completes k M c size) e h).all in
        (((tell.complete _ all).1 (groups_in memory)).1 few, (tell.complete _ all).0)

    pub too_many : Overflows K M c → K ≡ letters_of plan → groups_in c ≡ groups_in memory → PairsHeld plan sheet memory → ⊥
    too_many h e same =
        let over = subst (λ (k : ℕ). Overflows k M c) e h in
        rw (← same) (tell.overflow (groups_in c) over.text over.more)

    module _ {i a : ℕ} (h : Fails K M c i a) (e : K ≡ letters_of plan) where
      fails : Fails (letters_of plan) M c i a
      fails = subst (λ (k : ℕ). Fails k M c i a) e h

      pub pairs_held : groups_in c ≡ groups_in memory → PairsHeld plan sheet memory
      pairs_held same =
          let few : fails.size ≤ groups_in memory = omega (arith, fails.room) in
          (tell.fault _ _ fails.first).1 (groups_in memory) few

      pub spellable : (word : List ℕ) → 65 ≤ length word → Spellable K c i word
      spellable word l =
          let short : length (text_at K c i) ≤ 64 = rw e (short_at c i a fails) in
          record { some = omega (arith, e, (sound plan).some_letter); linked = h.traceable; room = omega arith }

      module _ {word w : List ℕ} {r : ℕ} (s : Spelt K c i word w r) (l : 65 ≤ length word) where
        spelt : Spelt (letters_of plan) c i word w r
        spelt = subst (λ (k : ℕ). Spelt k c i word w r) e s

        pub spelt_few : r ≤ 64
        spelt_few = omega (arith, spelt.length_is, short_at c i a fails)

        pub spelt_room : r < length w
        spelt_room = omega (arith, spelt_few, as_long (text_at (letters_of plan) c i) word w spelt.held (omega (arith, short_at c i a fails)))

        pub shows : ShowsWrong plan sheet word (set w r a) (r + 1)
        shows =
            let t = text_at (letters_of plan) c i in
            record {
              wrong = reverse (a ∷ t);
              first = (tell.fault _ _ fails.first).0;
              length_is = longer t r a spelt.length_is;
              held = written_on t word w r a spelt.length_is spelt.held (omega (arith, short_at c i a fails));
            }
