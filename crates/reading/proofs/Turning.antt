-- Each call keeps the law.
use Rattle.std.proofs.Common.{◌≡◌, ℕ, Bool, true, false, List, ◌∷◌, length, Ok, Err, vec_items, Option, Result, sym, refl, ap, ◌∙◌, subst}
use Rattle.pattern.specs.Rows.{Hit as Place}
use Rattle.plan.specs.declared.Plan.{Plan}
use Rattle.plan.specs.Views.{letters_of, patterns_of}
use Rattle.sheet.specs.declared.Sheet.{Sheet}
use Rattle.judge.specs.Refusals.{DrawError}
use Rattle.judge.specs.Memory.{Wiped}
use Rattle.judge.specs.Drawings.{Draws}
use Rattle.reading.specs.declared.hits.Report.{Report as Account}
use Rattle.reading.specs.declared.refusals.AdmitRefusal.{AdmitRefusal}
use Rattle.reading.specs.declared.calls.Call.{Call}
use Rattle.reading.specs.declared.calls.Call.TheVariants.{Draw, Admit, Report}
use Rattle.reading.specs.declared.calls.Answer.{Answer}
use Rattle.reading.specs.declared.calls.Answer.TheVariants.{Drawn, Judged, Told}
use Rattle.reading.specs.declared.states.Reading.{Reading}
use Rattle.reading.specs.declared.states.Search.{Search}
use Rattle.reading.specs.declared.sessions.Session.{Session}
use Rattle.reading.specs.declared.sessions.Session.TheVariants.{Idle, Searching}
use Rattle.reading.specs.Cells.{letters_in}
use Rattle.reading.specs.Spots.{conf_of}
use Rattle.reading.specs.Standing.{Standing, Thrifty}
use Rattle.reading.specs.Admission.{Admitted, Replaced}
use Rattle.reading.specs.Histories.{History, Order, Buffer, order, begun, admitted, searched, answers, DueInTurn, DueIf}
use Rattle.reading.specs.Sessions.{trace_of, Rests, Agrees, Promised, Made}
use Rattle.reading.proofs.Looking.{length_letters}
use Rattle.reading.proofs.Accepting.{drawn_accepted}

module _ {D : Type 0} (K : ℕ) (row : List (Result ℕ D)) where
  -- a call in its turn, or out of it
  in_turn_lem : (b : Bool) (before : History D) (c : Call) (a : Answer D) → b ≡ true → DueInTurn K row before c a → DueIf b K row before c a
  in_turn_lem true before c a e d = d
  in_turn_lem false before c a e d = absurd cc

module _ {T D : Type 0} (K : ℕ) (row : List (Result ℕ D)) where
  pub of_call : (s s' : Session T) (c c' : Call) (a : Answer D) → c ≡ c' → Promised K row s c' a s' → Promised K row s c a s'
  of_call s s' c c' a e p = subst (λ (x : Call). Promised K row s x a s') (sym e) p

  -- ---- in either state

  pub drawn : (s : Session T) (plan : Plan) (m m' : Buffer) (x : Result Sheet DrawError) → Draws plan (vec_items m) (vec_items m') x → Promised K row s (Draw plan m) (Drawn x m') s
  drawn (Idle r) plan m m' x d h a = (record { held = (x, m'); is = refl; due = d }, a)
  drawn (Searching s) plan m m' x d h a = (record { held = (x, m'); is = refl; due = d }, a)

  -- ---- outside a search

  pub judged : (r r' : Reading T) (plan : Plan) (sheet : Sheet) (m w m' w' : Buffer) (v : Result (Unit {0}) AdmitRefusal) → Admitted K plan sheet (vec_items m) (vec_items w) (vec_items w') v → Wiped (vec_items m) (vec_items m') → Replaced plan sheet r r' v → Promised K row (Idle r) (Admit plan sheet m w) (Judged v m' w') (Idle r')
  judged r r' plan sheet m w m' w' v due wiped held =
      λ h a. (in_turn_lem K row _ h (Admit plan sheet m w) (Judged v m' w') (rw a.shut) (record { held = (v, m', w'); is = refl; due = record { due = due; wiped = wiped; drawn = drawn_accepted K plan sheet (vec_items m) (vec_items w) (vec_items w') v due } }), go h v a due held)
    where
      go : (h : History D) (v : Result (Unit {0}) AdmitRefusal) → Rests K (begun h) (admitted K h) r → Admitted K plan sheet (vec_items m) (vec_items w) (vec_items w') v → Replaced plan sheet r r' v → Agrees K row ((Admit plan sheet m w, Judged v m' w') ∷ h) (Idle r')
      go h (Ok u) a d e = record { shut = a.shut; holds = rw (e.1, e.2); lettered = ap letters_of e.1 ∙ d.0 }
      go h (Err refusal) a d e = subst (λ (x : Reading T). Rests K (begun h) (admitted K h) x) (sym e) a

  pub replaced_trace : (r r' : Reading T) (plan : Plan) (sheet : Sheet) (v : Result (Unit {0}) AdmitRefusal) → Replaced plan sheet r r' v → r'.trace ≡ r.trace
  replaced_trace r r' plan sheet (Ok u) e = e.0
  replaced_trace r r' plan sheet (Err refusal) e = ap (λ (x : Reading T). x.trace) e

  -- ---- inside one

  -- the bound on the fetches, for the plan that is searched and the letters of the row
  thrifty : (s : Search T) (used : Order) (fetches : ℕ) → used ≡ order s.reading.plan s.reading.sheet → Thrifty (length row) (patterns_of s.reading.plan) fetches → Thrifty (length (letters_in row)) used.plan fetches
  thrifty s used fetches e h = rw (e, length_letters row) h

  pub told_of : (s : Search T) (r : Account) → r ≡ record { hits = s.hits; fetches = s.at.fetches; damaged = s.at.damaged } → ((told : List (Option Place)) → Standing K row told s → Thrifty (length row) (patterns_of s.reading.plan) r.fetches) → Promised K row (Searching s) Report (Told r) (Searching s)
  told_of s r e thrift =
      λ h a. (
        in_turn_lem K row _ h Report (Told r) a.opened (record {
          held = r;
          is = refl;
          due = record {
            counted = ap (λ (x : Account). x.hits) e ∙ a.stands.counted;
            at = conf_of s.at;
            reached = rw a.uses a.stands.reached;
            fetched = ap (λ (x : Account). x.fetches) e;
            damaged = ap (λ (x : Account). x.damaged) e;
            thrift = thrifty s (searched K h) r.fetches a.uses (thrift (answers h) a.stands);
          };
        }),
        a,
      )

-- a session by what it is known to be
pub made : {T D : Type 0} (K : ℕ) (row : T → List (Result ℕ D)) (s s₀ s' : Session T) (c : Call) (a : Answer D) → s ≡ s₀ → trace_of s' ≡ trace_of s₀ → Promised K (row (trace_of s₀)) s₀ c a s' → Made K row s c (s', a)
made K row s s₀ s' c a e k p = rw e (record { kept = k; law = p })
