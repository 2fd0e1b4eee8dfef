-- The table that a sheet stands for, and what its calls answer in terms of it.
use Rattle.std.specs.Prelude.{◌≡◌, ℕ, zero, suc, ◌+◌, ◌<◌, Bool, true, map, length, take, is_ok, Ok, Err, None, Option, slice_get, vec_items, Result}
use Rattle.sheet.specs.declared.Sheet.{Sheet}
use Rattle.sheet.specs.declared.states.State.{State}
use Rattle.sheet.specs.declared.refusals.Unmade.{Unmade}
use Rattle.sheet.specs.declared.refusals.Unmade.TheVariants.{Refused, NoMemory}
use Rattle.sheet.specs.declared.refusals.SheetRefusal.{SheetRefusal}
use Rattle.sheet.specs.declared.refusals.GrowthError.{GrowthError}
use Rattle.sheet.specs.declared.refusals.GrowthError.TheVariants.{Full}
use Rattle.sheet.specs.declared.refusals.GrowthError.TheVariants.{NoMemory as NoRoom}
use Rattle.automaton.specs.Automata.{Automaton}
use Rattle.sheet.specs.Tables.{Entry, Table, arrow_from, marks_at, prefix_at, grown, most_states}

abbrev pub entry_in : ℕ → State → Entry
entry_in letters s = record { marks = s.marks; prefix = s.prefix; arrows = take letters s.arrows }

abbrev pub table_of : Sheet → Table
table_of sheet =
    record { letters = sheet.letters; shortest = sheet.shortest; states = map (entry_in sheet.letters) (vec_items sheet.states) }

-- the state of a number, if there is one: state q stands at place q - 1
abbrev pub state_at : Sheet → ℕ → Option State
state_at sheet zero = None
state_at sheet (suc i) = slice_get (vec_items sheet.states) i

-- the automaton that a table is, and the one that a sheet stands for
abbrev pub automaton_in : Table → Automaton
automaton_in t = record { arrow = arrow_from t; marks = marks_at t; prefix = prefix_at t }

abbrev pub automaton_of : Sheet → Automaton
automaton_of sheet = automaton_in (table_of sheet)

-- a sheet is answered exactly where there is a table for it, unless memory is wanting; each refusal is for its reason
abbrev pub Gives : Result Table SheetRefusal → Result Sheet (Unmade SheetRefusal) → Type 0
Gives wanted (Ok sheet) = wanted ≡ Ok (table_of sheet)
Gives wanted (Err (Refused refusal)) = wanted ≡ Err refusal
Gives wanted (Err NoMemory) = is_ok wanted ≡ true

-- a new state has the next number, and comes unless there are as many as can be or memory is wanting, where nothing changes
abbrev pub Grows : Table → ℕ → Bool → Table → Result ℕ GrowthError → Type 0
Grows t marks prefix after (Ok q) = (length t.states < most_states) × (q ≡ length t.states + 1) × (after ≡ grown t marks prefix)
Grows t marks prefix after (Err Full) = (length t.states ≡ most_states) × (after ≡ t)
Grows t marks prefix after (Err NoRoom) = (length t.states < most_states) × (after ≡ t)
