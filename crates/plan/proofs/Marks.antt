-- The marks: one bit of the closing fits for each pattern.
use Rattle.std.proofs.Common.{◌≡◌, ℕ, ◌+◌, ◌*◌, ◌/◌, ◌%◌, ◌^◌, ◌<◌, Bool, false, List, ◌∷◌, map, length, get_or, drop, sym, ap, ◌∙◌, zero-add, arith}
use lib.Bits.{bit_and, bit_or}
use lib.Lanes.{mask_l}
use Rattle.std.specs.List.{range_with_len}
use Rattle.std.proofs.lemmas.List.FromFn.{length-map-range_with_len, get_or-map-range_with_len}
use Rattle.std.proofs.lemmas.List.{length-map, length-take, length-drop, get_or-map, drop_more, same_lists}
use Rattle.std.proofs.lemmas.Simd.{map-map}
use Rattle.pattern.specs.Fits.{bit, first_step, fitting}
use Rattle.pattern.proofs.Bitwise.{bit_number, push_bit}
use Rattle.plan.specs.Spans.{items, firsts_of}
use Rattle.plan.specs.Views.{patterns_of}
use Rattle.plan.specs.declared.Plan.{Plan}
use Rattle.plan.specs.declared.span.Span.{Span}
use Rattle.plan.proofs.Building.{length_plan}

module _ (plan : Plan) (f : ℕ × ℕ) where
  -- the bits of the closing fits at the first steps of the patterns
  picked : map (λ (s : Span). bit f.0 s.first) (items plan.spans) ≡ map (λ j. bit f.0 (first_step (patterns_of plan) j)) (range_with_len 0 (length (patterns_of plan)))
  picked = same_lists _ _ (long ∙ sym (length-map-range_with_len (λ j. bit f.0 (first_step (patterns_of plan) j)) 0 (length (patterns_of plan)))) at
    where
      long : length (map (λ (s : Span). bit f.0 s.first) (items plan.spans)) ≡ length (patterns_of plan)
      long = length-map (items plan.spans) (λ (s : Span). bit f.0 s.first) ∙ sym (length_plan plan)

      same : map (λ (s : Span). bit f.0 s.first) (items plan.spans) ≡ map (bit f.0) (firsts_of (items plan.spans))
      same = sym (map-map (bit f.0) (λ (s : Span). s.first) (items plan.spans))

      at : (k : ℕ) (d : Bool) → k < length (map (λ (s : Span). bit f.0 s.first) (items plan.spans)) → get_or (map (λ (s : Span). bit f.0 s.first) (items plan.spans)) k d ≡ get_or (map (λ j. bit f.0 (first_step (patterns_of plan) j)) (range_with_len 0 (length (patterns_of plan)))) k d
      at k d less =
          let l : k < length (patterns_of plan) = omega (arith, long) in
          let m : k < length (firsts_of (items plan.spans)) = omega (arith, length-map (items plan.spans) (λ (s : Span). s.first), length_plan plan) in
          rw same (get_or-map (bit f.0) (firsts_of (items plan.spans)) k 0 d m)
          ∙ ap (bit f.0) (plan.tables.placed k l)
          ∙ sym (get_or-map-range_with_len (λ j. bit f.0 (first_step (patterns_of plan) j)) 0 (length (patterns_of plan)) k k d l (zero-add k))

  -- one mark more, below the others
  pub marks_more : (m i j : ℕ) (spans : List Span) (s : Span) → spans ≡ items plan.spans → i ≡ j + 1 → j < length (items plan.spans) → m ≡ mask_l (drop i (map (λ (s : Span). bit f.0 s.first) (items plan.spans))) → bit_or ((m * 2) % 2 ^ 32) (bit_and (f.0 / 2 ^ (get_or spans j s).first) 1) ≡ mask_l (drop j (map (λ (s : Span). bit f.0 s.first) (items plan.spans)))
  marks_more m i j spans s same next less is =
      let bits : List Bool = map (λ (s : Span). bit f.0 s.first) (items plan.spans) in
      let at : ℕ = (get_or (items plan.spans) j s).first in
      let long : length bits ≡ length (items plan.spans) = length-map (items plan.spans) (λ (s : Span). bit f.0 s.first) in
      let few : length (drop i bits) < 32 = simp length-drop (omega (arith, length-take plan.spans.count plan.spans.places, plan.spans.within)) in
      let there : get_or bits j false ≡ bit f.0 at = get_or-map (λ (s : Span). bit f.0 s.first) (items plan.spans) j s false less in
      ap (λ (xs : List Span). bit_or ((m * 2) % 2 ^ 32) (bit_and (f.0 / 2 ^ (get_or xs j s).first) 1)) same
      ∙ rw is (push_bit 32 (drop i bits) (f.0 / 2 ^ at) (bit f.0 at) few (bit_number f.0 at))
      ∙ (λ k. mask_l (sym there k ∷ drop (next k) bits))
      ∙ ap mask_l (sym (drop_more bits j false (omega (arith, long))))

  -- all marks
  pub marks_are : mask_l (map (λ (s : Span). bit f.0 s.first) (items plan.spans)) ≡ (fitting (patterns_of plan)).marks f
  marks_are = ap mask_l picked
