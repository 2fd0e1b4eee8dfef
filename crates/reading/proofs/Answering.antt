-- A search that stands after some answers has answered the first hits of the full list, in order, and the end where they are all.
use Rattle.std.proofs.Common.{◌≡◌, ℕ, suc, ◌+◌, ◌-◌, ◌*◌, ◌≤◌, List, [], ◌∷◌, ◌++◌, length, is_some, Some, None, Option, Result, sym, refl, ap, ◌∙◌, arith}
use Rattle.std.proofs.lemmas.List.{append_assoc, length-append}
use Rattle.std.specs.List.{slice_get}
use Rattle.std.specs.Int.{from_bool}
use Rattle.trace.specs.Cells.{Lawful}
use Rattle.pattern.specs.Patterns.{shortest, longest}
use Rattle.pattern.specs.Images.{images_of}
use Rattle.pattern.specs.Rows.{full, Lettered}
use Rattle.pattern.specs.Rows.{Hit as Place}
use Rattle.pattern.specs.Laws.{Wellformed}
use Rattle.automaton.specs.Automata.{Automaton}
use Rattle.automaton.specs.Search.{Conf, start, Next, Nth, first, later, pending, Takes, Complete}
use Rattle.automaton.specs.Search.{Reading as Reads}
use Rattle.automaton.proofs.Search.{search_is_complete_lem}
use Rattle.plan.specs.declared.Plan.{Plan}
use Rattle.plan.specs.Views.{letters_of, patterns_of}
use Rattle.plan.proofs.Soundness.{sound}
use Rattle.sheet.specs.Views.{automaton_of}
use Rattle.reading.specs.declared.hits.Hit.{Hit}
use Rattle.reading.specs.declared.states.Search.{Search}
use Rattle.reading.specs.Cells.{letters_in}
use Rattle.reading.specs.Hits.{placed, count_of, hits_in}
use Rattle.reading.specs.Spots.{conf_of}
use Rattle.reading.specs.Standing.{Reached, begun, asked, Standing, Thrifty}
use Rattle.reading.proofs.Looking.{length_letters, all_letters}

-- before any answer
pub reached_start : (sheet : Automaton) (least : ℕ) (row : List (Option ℕ)) (k : Conf) → k ≡ start least → Reached sheet least row [] k
reached_start sheet least row k e = rw e begun

-- an answer moves the first of what is pending to what was answered
takes_on : (answers : List (Option Place)) (a : Option Place) (hs hs' : List Place) → Takes hs a hs' → hits_in (a ∷ answers) ++ hs' ≡ hits_in answers ++ hs
takes_on answers None hs hs' t = rw (t.0, t.1)
takes_on answers (Some h) hs hs' t = rw t (append_assoc (hits_in answers) (h ∷ []) hs')

takes_first : (a : Option Place) (hs hs' : List Place) → Takes hs a hs' → a ≡ slice_get hs 0
takes_first None hs hs' t = rw t.0
takes_first (Some h) hs hs' t = rw t

nth_after : (hs rest : List Place) → slice_get (hs ++ rest) (length hs) ≡ slice_get rest 0
nth_after [] rest = refl
nth_after (h ∷ hs) rest = nth_after hs rest

-- as the code counts
pub counts_one : (r : Option Hit) → from_bool (is_some r) ≡ count_of r
counts_one None = refl
counts_one (Some h) = refl

pub count_more : (answers : List (Option Place)) (r : Option Hit) → length (hits_in (placed r ∷ answers)) ≡ length (hits_in answers) + count_of r
count_more answers None = omega arith
count_more answers (Some h) = length-append (hits_in answers) _

module _ (plan : List (List ℕ)) (sheet : Automaton) (row : List (Option ℕ)) (all : Complete (images_of plan) sheet row) where
  -- what was answered and what is pending are together the full list
  pub told : {answers : List (Option Place)} {k : Conf} → Reached sheet (shortest plan) row answers k → Reads (images_of plan) sheet row k × (hits_in answers ++ pending (images_of plan) row k.p k.o ≡ full (images_of plan) row)
  told begun = (all.begins, all.begun)
  told (asked {answers = answers} {a = a} {k = k} {k' = k'} r n) =
      let i = told r in
      let t = all.resumes k k' a i.0 n in
      (t.0, takes_on answers a _ _ t.1 ∙ i.1)

  pub answers_next : {answers : List (Option Place)} {k k' : Conf} {a : Option Place} → Reached sheet (shortest plan) row answers k → Next sheet (shortest plan) row k a k' → a ≡ slice_get (full (images_of plan) row) (length (hits_in answers))
  answers_next {answers} {k} {k'} {a} r n =
      let i = told r in
      let t = all.resumes k k' a i.0 n in
      takes_first a _ _ t.1 ∙ sym (nth_after (hits_in answers) _) ∙ ap (λ hs. slice_get hs (length (hits_in answers))) i.1

-- the fetches, after any answers
module _ (sheet : Automaton) (least : ℕ) (row : List (Option ℕ)) where
  nth_next : {n : ℕ} {k k₁ k₂ : Conf} {a b : Option Place} → Nth sheet least row n k a k₁ → Next sheet least row k₁ b k₂ → Nth sheet least row (suc n) k b k₂
  nth_next (first m) n = later m (first n)
  nth_next (later m h) n = later m (nth_next h n)

  pub reached_nth : {answers : List (Option Place)} {a : Option Place} {k : Conf} → Reached sheet least row (a ∷ answers) k → Nth sheet least row (length answers) (start least) a k
  reached_nth (asked begun n) = first n
  reached_nth (asked (asked r m) n) = nth_next (reached_nth (asked r m)) n

-- ---- for the plans and sheets of the code

well : (plan : Plan) → Wellformed (patterns_of plan)
well plan = (sound plan).well

module _ {T D : Type 0} {K : ℕ} {row : List (Result ℕ D)} (s : Search T) (l : Lawful K row) {answers : List (Option Place)} (stands : Standing K row answers s) where
  lettered : Lettered (letters_of s.reading.plan) (letters_in row)
  lettered = rw stands.lettered (all_letters l)

  pub hit_is : (r : Option Place) (k : Conf) → Next (automaton_of s.reading.sheet) (shortest (patterns_of s.reading.plan)) (letters_in row) (conf_of s.at) r k → r ≡ slice_get (full (images_of (patterns_of s.reading.plan)) (letters_in row)) s.hits
  hit_is r k n =
      rw stands.counted (answers_next _ _ _ (search_is_complete_lem.complete _ _ _ _ (well s.reading.plan) s.reading.right lettered) stands.reached n)

  pub thrift_is : Thrifty (length row) (patterns_of s.reading.plan) s.at.fetches
  thrift_is lines long = rw (length_letters row) at (go answers (conf_of s.at) stands.reached)
    where
      go : (answers : List (Option Place)) (k : Conf) → Reached (automaton_of s.reading.sheet) (shortest (patterns_of s.reading.plan)) (letters_in row) answers k → k.fetches ≤ (length (letters_in row) - shortest (patterns_of s.reading.plan) + 1) * (longest (patterns_of s.reading.plan) + 1)
      go [] k begun = omega arith
      go (a ∷ answers) k r =
          search_is_complete_lem.fetches _ _ _ _ (well s.reading.plan) s.reading.right lettered lines (rw (length_letters row) long) (length answers) a k (reached_nth _ _ _ r)
