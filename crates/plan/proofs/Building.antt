-- A plan with one pattern more.
use Rattle.std.proofs.Common.{◌≡◌, ℕ, zero, suc, ◌+◌, ◌-◌, ◌*◌, ◌%◌, ◌^◌, ◌<◌, ◌≤◌, min, max, Bool, false, List, [], ◌∷◌, ◌++◌, map, length, get_or, take, drop, sym, refl, ap, ◌∙◌, subst, ap₂, inl, inr, append-nil, pow-suc, arith, pow_mono}
use lib.Bits.{bit_or}
use lib.Lanes.{mask_l}
use Rattle.std.specs.List.{range_with_len}
use Rattle.std.proofs.lemmas.Nat.{pow-add}
use Rattle.std.proofs.lemmas.List.FromFn.{length-map-range_with_len, get_or-map-range_with_len, map-range_with_len_more}
use Rattle.std.proofs.lemmas.List.{append_assoc, map-append, length-map, length-append, length-drop, get_or_append_left, get_or_at, take-append-le, drop-append-le, length_push, take_at, same_lists}
use Rattle.std.proofs.Math.Seq.{drop-append_seam, take-length}
use Rattle.std.proofs.lemmas.Bool.{cases_lt}
use Rattle.pattern.specs.Patterns.{shortest, longest, Filled}
use Rattle.pattern.specs.Fits.{tails, rests, steps_where, admits_first, is_last, opening, opens, first_step, pattern_at, plan_of, Inside, Nonempty, Firsts, Admit}
use Rattle.plan.specs.Sets.{Within}
use Rattle.plan.specs.Spans.{items, firsts_of, lengths_of, plan_in}
use Rattle.plan.specs.Views.{letters_of, patterns_of, Room}
use Rattle.plan.specs.declared.Plan.{Plan}
use Rattle.plan.specs.declared.span.Span.{Span}
use Rattle.pattern.proofs.Bitwise.{or_above, mask_l_append}
use Rattle.pattern.proofs.Places.{where_bound, opens_bound, length_opens}

rests_append : (xs ys : List (List ℕ)) → rests (xs ++ ys) ≡ rests xs ++ rests ys
unfolding rests
rests_append [] ys = refl
rests_append (p ∷ ps) ys = ap (λ (x : List (List ℕ)). tails p ++ x) (rests_append ps ys) ∙ sym (append_assoc (tails p) (rests ps) (rests ys))

opens_append : (xs ys : List (List ℕ)) → opens (xs ++ ys) ≡ opens xs ++ opens ys
unfolding opens
opens_append [] ys = refl
opens_append (p ∷ ps) ys = ap (λ (x : List Bool). opening p ++ x) (opens_append ps ys) ∙ sym (append_assoc (opening p) (opens ps) (opens ys))

where_append : (f : List ℕ → Bool) (xs ys : List (List ℕ)) → steps_where f (xs ++ ys) ≡ steps_where f xs + 2 ^ length (rests xs) * steps_where f ys
unfolding steps_where
where_append f xs ys =
    ap (λ (x : List (List ℕ)). mask_l (map f x)) (rests_append xs ys)
    ∙ ap mask_l (map-append f (rests xs) (rests ys))
    ∙ mask_l_append (map f (rests xs)) (map f (rests ys))
    ∙ ap (λ (n : ℕ). mask_l (map f (rests xs)) + 2 ^ n * mask_l (map f (rests ys))) (length-map (rests xs) f)

opened_append : (xs ys : List (List ℕ)) → mask_l (opens (xs ++ ys)) ≡ mask_l (opens xs) + 2 ^ length (rests xs) * mask_l (opens ys)
opened_append xs ys =
    ap mask_l (opens_append xs ys) ∙ mask_l_append (opens xs) (opens ys) ∙ ap (λ (n : ℕ). mask_l (opens xs) + 2 ^ n * mask_l (opens ys)) (length_opens xs)

length_tails : (p : List ℕ) → length (tails p) ≡ length p
unfolding tails
length_tails [] = refl
length_tails (s ∷ ss) = ap suc (length_tails ss)

-- ---- a plan of one pattern

rests_one : (p : List ℕ) → rests (p ∷ []) ≡ tails p
unfolding rests
rests_one p = append-nil (tails p)

pub length_one : (p : List ℕ) → length (rests (p ∷ [])) ≡ length p
length_one p = ap length (rests_one p) ∙ length_tails p

opened_one : (p : List ℕ) → 0 < length p → mask_l (opens (p ∷ [])) ≡ 1
unfolding opens opening
opened_one [] some = absurd (omega arith)
opened_one (s ∷ ss) some = omega (arith, none ss)
  where
    none : (ss : List ℕ) → mask_l (map (λ _. false) ss ++ []) ≡ 0
    none [] = refl
    none (s ∷ ss) = omega (arith, none ss)

last_one : (p : List ℕ) → 0 < length p → steps_where is_last (p ∷ []) ≡ 2 ^ (length p - 1)
unfolding steps_where tails is_last
last_one p some = ap (λ (x : List (List ℕ)). mask_l (map is_last x)) (rests_one p) ∙ go p some
  where
    go : (p : List ℕ) → 0 < length p → mask_l (map is_last (tails p)) ≡ 2 ^ (length p - 1)
    go [] some = absurd (omega arith)
    go (s ∷ []) some = refl
    go (s ∷ (u ∷ us)) some =
        let e : length (s ∷ (u ∷ us)) - 1 ≡ suc (length us) = omega arith in
        let f : length (u ∷ us) - 1 ≡ length us = omega arith in
        let r : mask_l (map is_last (tails (u ∷ us))) ≡ 2 ^ length us = go (u ∷ us) (omega arith) ∙ ap (λ (n : ℕ). 2 ^ n) f in
        let g : 2 ^ suc (length us) ≡ 2 ^ length us * 2 = pow-suc 2 (length us) in
        omega (arith, ap (λ (n : ℕ). 2 ^ n) e)

-- ---- a pattern after the others

module _ (plan : List (List ℕ)) (p : List ℕ) (some : 0 < length p) (fits : length (rests plan) + length p ≤ 64) where
  pub counted_more : length (rests (plan ++ p ∷ [])) ≡ length (rests plan) + length p
  counted_more = ap length (rests_append plan (p ∷ [])) ∙ length-append (rests plan) (rests (p ∷ [])) ∙ ap (λ (n : ℕ). length (rests plan) + n) (length_one p)

  pub where_more : (f : List ℕ → Bool) → bit_or (steps_where f plan) ((steps_where f (p ∷ []) * 2 ^ length (rests plan)) % 2 ^ 64) ≡ steps_where f (plan ++ p ∷ [])
  where_more f =
      let b : steps_where f (p ∷ []) < 2 ^ length p = rw (← length_one p) (where_bound f (p ∷ [])) in
      or_above 64 (length (rests plan)) (length p) (steps_where f plan) (steps_where f (p ∷ [])) (where_bound f plan) b (omega arith) ∙ sym (where_append f plan (p ∷ []))

  pub opened_more : bit_or (mask_l (opens plan)) ((1 * 2 ^ length (rests plan)) % 2 ^ 64) ≡ mask_l (opens (plan ++ p ∷ []))
  opened_more = or_above 64 (length (rests plan)) 1 (mask_l (opens plan)) 1 (opens_bound plan) (omega arith) (omega arith) ∙ ap (λ (n : ℕ). mask_l (opens plan) + 2 ^ length (rests plan) * n) (sym (opened_one p some)) ∙ sym (opened_append plan (p ∷ []))

  pub ended_more : bit_or (steps_where is_last plan) ((1 * 2 ^ (length (rests plan) + length p - 1)) % 2 ^ 64) ≡ steps_where is_last (plan ++ p ∷ [])
  ended_more =
      let k : ℕ = length (rests plan) in
      let e : k + length p - 1 ≡ k + (length p - 1) = omega arith in
      let up : 2 ^ k ≤ 2 ^ (k + (length p - 1)) = pow_mono (omega arith) in
      ap (λ (n : ℕ). bit_or (steps_where is_last plan) ((1 * 2 ^ n) % 2 ^ 64)) e
      ∙ or_above 64 (k + (length p - 1)) 1 (steps_where is_last plan) 1 (omega (arith, where_bound is_last plan)) (omega arith) (omega arith)
      ∙ omega (arith, pow-add 2 k (length p - 1), last_one p some, ap (λ (n : ℕ). 2 ^ k * n) (last_one p some))
      ∙ sym (where_append is_last plan (p ∷ []))

  pub nonempty_more : Nonempty plan → Nonempty (plan ++ p ∷ [])
  nonempty_more filled j less =
      elim (cases_lt j (length plan)) [
        | inl l ↦ rw (get_or_append_left plan (p ∷ []) [] j l) (filled j l)
        | inr l ↦ let e : length plan ≡ j = omega (arith, length-append plan (p ∷ [])) in rw (get_or_at plan p [] [] j e) some
      ]

  pub placed_more : (firsts : List ℕ) → length plan ≡ length firsts → Firsts plan firsts → Firsts (plan ++ p ∷ []) (firsts ++ length (rests plan) ∷ [])
  unfolding first_step
  placed_more firsts long placed j less =
      elim (cases_lt j (length plan)) [
        | inl l ↦
            let here : j < length firsts = omega arith in
            let le : j ≤ length plan = omega arith in
            get_or_append_left firsts (length (rests plan) ∷ []) 0 j here ∙ placed j l ∙ ap (λ (x : List (List ℕ)). length (rests x)) (sym (take-append-le j plan (p ∷ []) le))
        | inr l ↦
            let e : length plan ≡ j = omega (arith, length-append plan (p ∷ [])) in
            get_or_at firsts (length (rests plan)) [] 0 j (sym long ∙ e) ∙ ap (λ (x : List (List ℕ)). length (rests x)) (sym (take_at plan (p ∷ []) j e))
      ]

-- what holds of every step still does
pub each_more : (Q : ℕ → Type 0) (plan : List (List ℕ)) (p : List ℕ) → ((j i : ℕ) → i < length (get_or plan j []) → Q (get_or (get_or plan j []) i 0)) → ((i : ℕ) → i < length p → Q (get_or p i 0)) → (j i : ℕ) → i < length (get_or (plan ++ p ∷ []) j []) → Q (get_or (get_or (plan ++ p ∷ []) j []) i 0)
each_more Q [] p old new zero i less = new i less
each_more Q [] p old new (suc j) i less = absurd (omega arith)
each_more Q (q ∷ ps) p old new zero i less = old zero i less
each_more Q (q ∷ ps) p old new (suc j) i less = each_more Q ps p (λ k. old (suc k)) new j i less

pub shortest_more : (plan : List (List ℕ)) (p : List ℕ) → 0 < length plan → shortest (plan ++ p ∷ []) ≡ min (shortest plan) (length p)
unfolding shortest
shortest_more [] p some = absurd (omega arith)
shortest_more (q ∷ []) p some = refl
shortest_more (q ∷ (r ∷ rs)) p some = omega (arith, shortest_more (r ∷ rs) p (omega arith))

pub longest_more : (plan : List (List ℕ)) (p : List ℕ) → longest (plan ++ p ∷ []) ≡ max (longest plan) (length p)
unfolding longest
longest_more [] p = omega arith
longest_more (q ∷ ps) p = omega (arith, longest_more ps p)

-- ---- one span more, behind the others

front : (f n : ℕ) (xs ys : List ℕ) → f + n ≤ length xs → take n (drop f (xs ++ ys)) ≡ take n (drop f xs)
front f n xs ys h =
    let here : f ≤ length xs = omega arith in
    let rest : n ≤ length (drop f xs) = simp length-drop (omega arith) in
    rw (drop-append-le f xs ys here) (take-append-le n (drop f xs) ys rest)

behind : (xs p : List ℕ) → take (length p) (drop (length xs) (xs ++ p)) ≡ p
behind xs p = rw (drop-append_seam xs p) (take-length p)

module _ (spans : List Span) (s : Span) (from size : ℕ) (first : s.first ≡ from) (long : s.length ≡ size) where
  pub firsts_more : firsts_of (spans ++ s ∷ []) ≡ firsts_of spans ++ from ∷ []
  firsts_more = map-append (λ (x : Span). x.first) spans (s ∷ []) ∙ ap (λ (n : ℕ). firsts_of spans ++ n ∷ []) first

  pub lengths_more : lengths_of (spans ++ s ∷ []) ≡ lengths_of spans ++ size ∷ []
  lengths_more = map-append (λ (x : Span). x.length) spans (s ∷ []) ∙ ap (λ (n : ℕ). lengths_of spans ++ n ∷ []) long

length_firsts : (spans : List Span) → length (firsts_of spans) ≡ length spans
length_firsts spans = length-map spans (λ x. x.first)

length_lengths : (spans : List Span) → length (lengths_of spans) ≡ length spans
length_lengths spans = length-map spans (λ x. x.length)

module _ (spans : List Span) (steps p : List ℕ) (inside : Inside (length spans) (firsts_of spans) (lengths_of spans) (length steps)) where
  abbrev firsts' : List ℕ
  firsts' = firsts_of spans ++ length steps ∷ []

  abbrev lengths' : List ℕ
  lengths' = lengths_of spans ++ length p ∷ []

  first_old : (j : ℕ) → j < length spans → get_or firsts' j 0 ≡ get_or (firsts_of spans) j 0
  first_old j less = get_or_append_left (firsts_of spans) (length steps ∷ []) 0 j (omega (arith, length_firsts spans))

  length_old : (j : ℕ) → j < length spans → get_or lengths' j 0 ≡ get_or (lengths_of spans) j 0
  length_old j less = get_or_append_left (lengths_of spans) (length p ∷ []) 0 j (omega (arith, length_lengths spans))

  first_new : (j : ℕ) → length spans ≡ j → get_or firsts' j 0 ≡ length steps
  first_new j e = get_or_at (firsts_of spans) (length steps) [] 0 j (length_firsts spans ∙ e)

  length_new : (j : ℕ) → length spans ≡ j → get_or lengths' j 0 ≡ length p
  length_new j e = get_or_at (lengths_of spans) (length p) [] 0 j (length_lengths spans ∙ e)

  old : (j : ℕ) → j < length spans → pattern_at firsts' lengths' (steps ++ p) j ≡ pattern_at (firsts_of spans) (lengths_of spans) steps j
  old j less = rw (first_old j less, length_old j less) (front (get_or (firsts_of spans) j 0) (get_or (lengths_of spans) j 0) steps p (inside j less))

  new : pattern_at firsts' lengths' (steps ++ p) (length spans) ≡ p
  new = rw (first_new (length spans) refl, length_new (length spans) refl) (behind steps p)

  abbrev at' : ℕ → List ℕ
  at' = pattern_at firsts' lengths' (steps ++ p)

  abbrev at : ℕ → List ℕ
  at = pattern_at (firsts_of spans) (lengths_of spans) steps

  pub plan_more : plan_of (length spans + 1) firsts' lengths' (steps ++ p) ≡ plan_in spans steps ++ p ∷ []
  plan_more =
      map-range_with_len_more at' 0 (length spans) (length spans) (omega arith)
      ∙ ap₂ {C = List (List ℕ)} (λ x y. x ++ (y ∷ [])) olds new
    where
      olds : map at' (range_with_len 0 (length spans)) ≡ plan_in spans steps
      olds = same_lists _ _ (length-map-range_with_len at' 0 (length spans) ∙ sym (length-map-range_with_len at 0 (length spans))) (λ k d less.
          let l : k < length spans = omega (arith, length-map-range_with_len at' 0 (length spans)) in
          get_or-map-range_with_len at' 0 (length spans) k k d l (omega arith) ∙ old k l ∙ sym (get_or-map-range_with_len at 0 (length spans) k k d l (omega arith)))

  pub inside_more : Inside (length spans + 1) firsts' lengths' (length steps + length p)
  inside_more j less =
      elim (cases_lt j (length spans)) [
        | inl l ↦ rw (first_old j l, length_old j l) (omega (arith, inside j l))
        | inr l ↦ let e : length spans ≡ j = omega arith in rw (first_new j e, length_new j e) (omega arith)
      ]

-- ---- a plan without patterns

pub plan_none : (spans : List Span) (steps : List ℕ) → spans ≡ [] → plan_in spans steps ≡ []
plan_none spans steps none = rw none refl

-- ---- a plan with one pattern more

pub length_plan : (plan : Plan) → length (patterns_of plan) ≡ length (items plan.spans)
length_plan plan = length-map-range_with_len (pattern_at (firsts_of (items plan.spans)) (lengths_of (items plan.spans)) (items plan.steps)) 0 (length (items plan.spans))

-- the steps and spans of the plan with the pattern p more
pub record Grown (plan : Plan) (p : List ℕ) (from : ℕ) (steps : List ℕ) (spans : List Span) : Type 0 where
  pub room : Room plan p
  pub behind : from ≡ length (items plan.steps)
  pub span : Span
  pub first : span.first ≡ from
  pub long : span.length ≡ length p
  pub steps_are : steps ≡ items plan.steps ++ p
  pub spans_are : spans ≡ items plan.spans ++ span ∷ []

module _ (plan : Plan) (p : List ℕ) (from : ℕ) (steps : List ℕ) (spans : List Span) (g : Grown plan p from steps spans) where
  abbrev plan' : List (List ℕ)
  plan' = plan_in spans steps

  firsts_are : firsts_of spans ≡ firsts_of (items plan.spans) ++ length (items plan.steps) ∷ []
  firsts_are = ap firsts_of g.spans_are ∙ firsts_more (items plan.spans) g.span (length (items plan.steps)) (length p) (g.first ∙ g.behind) g.long

  lengths_are : lengths_of spans ≡ lengths_of (items plan.spans) ++ length p ∷ []
  lengths_are = ap lengths_of g.spans_are ∙ lengths_more (items plan.spans) g.span (length (items plan.steps)) (length p) (g.first ∙ g.behind) g.long

  pub more_spans : length spans ≡ length (items plan.spans) + 1
  more_spans = ap length g.spans_are ∙ length_push (items plan.spans) g.span

  pub more_steps : length steps ≡ length (items plan.steps) + length p
  more_steps = ap length g.steps_are ∙ length-append (items plan.steps) p

  pub view : plan' ≡ patterns_of plan ++ (p ∷ [])
  view = rw (more_spans, firsts_are, lengths_are, g.steps_are) (plan_more (items plan.spans) (items plan.steps) p plan.tables.inside)

  room : length (rests (patterns_of plan)) + length p ≤ 64
  room = omega (arith, g.room.steps, plan.tables.counted)

  pub inside_new : Inside (length spans) (firsts_of spans) (lengths_of spans) (length steps)
  inside_new = rw (more_spans, firsts_are, lengths_are, more_steps) (inside_more (items plan.spans) (items plan.steps) p plan.tables.inside)

  pub counted_new : length (rests plan') ≡ length steps
  counted_new = ap (λ (x : List (List ℕ)). length (rests x)) view ∙ counted_more (patterns_of plan) p g.room.some room ∙ ap (λ (k : ℕ). k + length p) plan.tables.counted ∙ sym more_steps

  pub nonempty_new : Nonempty plan'
  nonempty_new = subst Nonempty (sym view) (nonempty_more (patterns_of plan) p g.room.some room plan.tables.nonempty)

  pub filled_new : Filled plan'
  filled_new = subst Filled (sym view) (each_more (λ s. 0 < s) (patterns_of plan) p plan.tables.filled (λ i less. (g.room.sets i less).0))

  pub within_new : Within (letters_of plan) plan'
  within_new = subst (Within (letters_of plan)) (sym view) (each_more (λ s. s < 2 ^ letters_of plan) (patterns_of plan) p plan.tables.within (λ i less. (g.room.sets i less).1))

  pub least_first : length (items plan.spans) ≡ 0 → length p ≡ shortest plan'
  unfolding shortest
  least_first none = rw (view, none) refl

  pub least_more : 0 < length (items plan.spans) → min (length p) plan.shortest ≡ shortest plan'
  least_more some = omega (arith, plan.tables.least, shortest_more (patterns_of plan) p (omega (arith, length_plan plan)), ap shortest view)

  pub most_new : max (length p) plan.longest ≡ longest plan'
  most_new = omega (arith, plan.tables.most, longest_more (patterns_of plan) p, ap longest view)

  pub placed_new : Firsts plan' (firsts_of spans)
  placed_new =
      let long : length (patterns_of plan) ≡ length (firsts_of (items plan.spans)) = length_plan plan ∙ sym (length_firsts (items plan.spans)) in
      rw (view, firsts_are, ← plan.tables.counted) (placed_more (patterns_of plan) p g.room.some room (firsts_of (items plan.spans)) long plan.tables.placed)

  pub admits_new : (admit : List ℕ) → ((a : ℕ) → a < letters_of plan → get_or admit a 0 ≡ bit_or (get_or plan.admit a 0) ((steps_where (admits_first a) (p ∷ []) * 2 ^ from) % 2 ^ 64)) → Admit plan' (letters_of plan) admit
  admits_new admit is a less =
      is a less
      ∙ rw (g.behind, plan.tables.admits a less, ← plan.tables.counted) (where_more (patterns_of plan) p g.room.some room (admits_first a))
      ∙ ap (steps_where (admits_first a)) (sym view)

  pub opened_new : bit_or plan.starts ((1 * 2 ^ from) % 2 ^ 64) ≡ mask_l (opens plan')
  opened_new = rw (g.behind, plan.tables.opened, ← plan.tables.counted) (opened_more (patterns_of plan) p g.room.some room) ∙ ap (λ (x : List (List ℕ)). mask_l (opens x)) (sym view)

  pub ended_new : bit_or plan.ends ((1 * 2 ^ (from + length p - 1)) % 2 ^ 64) ≡ steps_where is_last plan'
  ended_new = rw (g.behind, plan.tables.ended, ← plan.tables.counted) (ended_more (patterns_of plan) p g.room.some room) ∙ ap (steps_where is_last) (sym view)
