-- What admitting a plan and a sheet answers, and what the reading holds then.
--   number_of   the numbers of the refusals, each that of the question that is answered by no
--   Admitted    the answer, with what the word buffer holds then, over a trace of K letters
--   Replaced    an accepted plan and sheet replace those of the reading; a refused sheet changes nothing
use Rattle.std.specs.Prelude.{◌≡◌, ℕ, List, Ok, Err, Result, ◌≢◌}
use Rattle.plan.specs.declared.Plan.{Plan}
use Rattle.plan.specs.Views.{letters_of}
use Rattle.sheet.specs.declared.Sheet.{Sheet}
use Rattle.judge.specs.Judged.{Answers}
use Rattle.judge.specs.Refusals.{number_of as number_of_judge}
use Rattle.reading.specs.declared.refusals.AdmitRefusal.{AdmitRefusal}
use Rattle.reading.specs.declared.refusals.AdmitRefusal.TheVariants.{Alphabet}
use Rattle.reading.specs.declared.refusals.AdmitRefusal.TheVariants.{Sheet as AboutSheet}
use Rattle.reading.specs.declared.states.Reading.{Reading}

abbrev pub number_of : AdmitRefusal → ℕ
number_of Alphabet = 31
number_of (AboutSheet refusal) = number_of_judge refusal

-- first: has the plan the trace's letters? Then the judge's questions
abbrev pub Admitted : ℕ → Plan → Sheet → List ℕ → List ℕ → List ℕ → Result (Unit {0}) AdmitRefusal → Type 0
Admitted K plan sheet memory word after (Ok u) = (letters_of plan ≡ K) × Answers plan sheet memory word after (Ok u)
Admitted K plan sheet memory word after (Err Alphabet) = (letters_of plan ≢ K) × (after ≡ word)
Admitted K plan sheet memory word after (Err (AboutSheet refusal)) = (letters_of plan ≡ K) × Answers plan sheet memory word after (Err refusal)

abbrev pub Replaced : {T : Type 0} → Plan → Sheet → Reading T → Reading T → Result (Unit {0}) AdmitRefusal → Type 0
Replaced plan sheet before after (Ok u) = (after.trace ≡ before.trace) × (after.plan ≡ plan) × (after.sheet ≡ sheet)
Replaced plan sheet before after (Err refusal) = after ≡ before
