-- A sheet that is drawn for the plan is accepted.
use Rattle.std.proofs.Common.{◌≡◌, ℕ, ◌≤◌, List, length, Ok, Err, Result, refl}
use Rattle.exploration.proofs.Drawing.{drawn_sheets_hold_lem}
use Rattle.plan.specs.declared.Plan.{Plan}
use Rattle.plan.specs.Views.{letters_of, patterns_of}
use Rattle.plan.proofs.Soundness.{sound}
use Rattle.sheet.specs.declared.Sheet.{Sheet}
use Rattle.sheet.specs.Views.{table_of, automaton_of}
use Rattle.judge.specs.Memory.{groups_in}
use Rattle.judge.specs.Judged.{HasRoom, PairsHeld, Answers}
use Rattle.judge.specs.Drawings.{DrawnFor}
use Rattle.judge.specs.declared.refusals.JudgeRefusal.{JudgeRefusal}
use Rattle.judge.specs.declared.refusals.JudgeRefusal.TheVariants.{Letters, Shortest, Room, Pairs, Word}
use Rattle.reading.specs.declared.refusals.AdmitRefusal.{AdmitRefusal}
use Rattle.reading.specs.declared.refusals.AdmitRefusal.TheVariants.{Alphabet}
use Rattle.reading.specs.declared.refusals.AdmitRefusal.TheVariants.{Sheet as AboutSheet}
use Rattle.reading.specs.Admission.{Admitted}

module _ (plan : Plan) (sheet : Sheet) (memory word : List ℕ) (d : DrawnFor plan sheet) (room : HasRoom memory word) (few : length (table_of sheet).states ≤ groups_in memory) where
  holds : PairsHeld plan sheet memory
  holds = drawn_sheets_hold_lem (letters_of plan) (patterns_of plan) (sound plan).well (length (table_of sheet).states) (groups_in memory) (automaton_of sheet) d.drawn few

  no_refusal : (after : List ℕ) (v : JudgeRefusal) → Answers plan sheet memory word after (Err v) → ⊥
  no_refusal after Letters a = a.0 d.letters
  no_refusal after Shortest a = a.1 d.shortest
  no_refusal after Room a = a.2 room
  no_refusal after Pairs a = a.1 holds
  no_refusal after (Word size) a = d.drawn.well a.2.wrong a.2.first.lettered a.2.first.wrong

pub drawn_accepted : (K : ℕ) (plan : Plan) (sheet : Sheet) (memory word after : List ℕ) (v : Result (Unit {0}) AdmitRefusal) → Admitted K plan sheet memory word after v → DrawnFor plan sheet → letters_of plan ≡ K → HasRoom memory word → length (table_of sheet).states ≤ groups_in memory → v ≡ Ok tt
drawn_accepted K plan sheet memory word after (Ok u) a d k room few = refl
drawn_accepted K plan sheet memory word after (Err Alphabet) a d k room few = absurd (a.0 k)
drawn_accepted K plan sheet memory word after (Err (AboutSheet v)) a d k room few = absurd (no_refusal plan sheet memory word d room few after v a.1)
