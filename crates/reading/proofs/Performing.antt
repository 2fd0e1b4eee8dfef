-- Calls made in turn: one call more, and the first of all.
use Rattle.std.proofs.Common.{◌≡◌, ℕ, List, [], ◌∷◌, ◌++◌, length, Result, sym, refl, ap, ◌∙◌, subst, arith}
use Rattle.std.proofs.lemmas.List.{append_assoc, append-nil}
use Rattle.reading.specs.declared.calls.Call.{Call}
use Rattle.reading.specs.declared.calls.Answer.{Answer}
use Rattle.reading.specs.declared.sessions.Session.{Session}
use Rattle.reading.specs.Histories.{History, Kept, history_after}
use Rattle.reading.specs.Promise.{Performed}
use Rattle.reading.proofs.Promising.{promised}
use Rattle.reading.specs.Sessions.{trace_of, Agrees, Promised, Continues}

history_more : {D : Type 0} (before : History D) (calls : List Call) (given : List (Answer D)) (c : Call) (a : Answer D) → length given ≡ length calls → history_after before (calls ++ c ∷ []) (given ++ a ∷ []) ≡ (c, a) ∷ history_after before calls given
history_more before [] [] c a e = refl
history_more before [] (b ∷ given) c a e = absurd (omega arith)
history_more before (d ∷ calls) [] c a e = absurd (omega arith)
history_more before (d ∷ calls) (b ∷ given) c a e = history_more ((d, b) ∷ before) calls given c a (omega arith)

module _ {T D : Type 0} (K : ℕ) (row : List (Result ℕ D)) where
  pub continues_more : (s s₁ s₂ : Session T) (calls : List Call) (given given' : List (Answer D)) (c : Call) (a : Answer D) → length given ≡ length calls → given' ≡ given ++ a ∷ [] → Continues K row s calls given s₁ → Promised K row s₁ c a s₂ → Continues K row s (calls ++ c ∷ []) given' s₂
  continues_more s s₁ s₂ calls given given' c a n e so p h ag =
      let i = so h ag in
      let j = p (history_after h calls given) i.stands in
      let is : history_after h (calls ++ c ∷ []) given' ≡ (c, a) ∷ history_after h calls given = ap (history_after h (calls ++ c ∷ [])) e ∙ history_more h calls given c a n in
      record {
        kept = λ k. subst (Kept K row) (sym is) (j.0, i.kept k);
        stands = subst (λ (x : History D). Agrees K row x s₂) (sym is) j.1;
      }

-- the same trace
pub of_trace : {T D : Type 0} (K : ℕ) (row : T → List (Result ℕ D)) (t t' : T) (s s' : Session T) (c : Call) (a : Answer D) → t ≡ t' → Promised K (row t) s c a s' → Promised K (row t') s c a s'
of_trace K row t t' s s' c a e p = rw (sym e) p

-- the calls that came, and those that are left
pub came_more : (came rest left all : List Call) (c : Call) → came ++ left ≡ all → left ≡ c ∷ rest → (came ++ c ∷ []) ++ rest ≡ all
came_more came rest left all c e f = append_assoc came (c ∷ []) rest ∙ (rw f at e)

pub came_all : (came left all : List Call) → came ++ left ≡ all → length left ≡ 0 → came ≡ all
came_all came [] all e n = sym (append-nil came) ∙ e
came_all came (c ∷ left) all e n = absurd (omega arith)

pub performed : {T D : Type 0} (K : ℕ) (row : T → List (Result ℕ D)) (trace : T) (s s' : Session T) (calls : List Call) (given : List (Answer D)) → trace_of s ≡ trace → Agrees K (row trace) [] s → length given ≡ length calls → Continues K (row (trace_of s)) s calls given s' → Performed K (row trace) calls given
performed {T} {D} K row trace s s' calls given is fresh all so =
    record { all = all; kept = kept; promise = promised K (row trace) (history_after [] calls given) kept }
  where
    kept : Kept K (row trace) (history_after [] calls given)
    kept = (subst (λ (t : T). Continues K (row t) s calls given s') is so [] fresh).kept tt
