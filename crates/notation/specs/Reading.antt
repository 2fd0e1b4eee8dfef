-- How a text is read as a plan, byte by byte from its front.
-- A letter is a number below K. A set of letters is a number: bit a is set where the letter a is in the set.
-- A step is a set of letters, a pattern a list of steps, a plan a list of patterns; a text is a list of bytes.
-- What is read comes with the text that is left behind it, and what is left of a limit (steps, lines) is what is recursed on.
use Rattle.std.specs.Prelude.{ℕ, zero, suc, ◌+◌, ◌-◌, ◌^◌, Bool, cond, ◌&&◌, List, [], ◌∷◌, ◌++◌, length, Ok, Err, codes, Result, ◌==◌, bit_or, nat_le, nat_lt, slice_index}
use Prim.Native.String.{String}
use Rattle.notation.specs.declared.Sign.{Sign}
use Rattle.notation.specs.declared.Sign.TheVariants.{Letter, Dot, Open, Close, Caret, Other}
use Rattle.notation.specs.declared.LineFault.{LineFault}
use Rattle.notation.specs.declared.LineFault.TheVariants.{TooManyLines, BadSign, BadSet, NoLetter, TooManySteps, EmptyLine}
use Rattle.notation.specs.declared.PlanRefusal.{PlanRefusal}
use Rattle.notation.specs.declared.PlanRefusal.TheVariants.{Letters, Text, Line}

-- ---- signs

-- b is one of the numbers from low to high
abbrev pub between : ℕ → ℕ → ℕ → Bool
between low high b = nat_le low b && nat_le b high

-- the sign of the letter a, if there is such a letter
abbrev pub letter_sign : ℕ → ℕ → Sign
letter_sign K a = cond (nat_lt a K) (Letter a) Other

-- the byte of an ASCII character
abbrev pub byte : String → ℕ
byte s = slice_index (codes s) 0

-- what a byte stands for: A to Z are the letters from 0 on, a to f those from 26 on
unfoldable pub sign_of : ℕ → ℕ → Sign
sign_of K b =
    cond (between (byte "A") (byte "Z") b) (letter_sign K (b - byte "A"))
    (cond (between (byte "a") (byte "f") b) (letter_sign K (b - byte "a" + 26))
    (cond (b == (byte ".")) Dot
    (cond (b == (byte "[")) Open
    (cond (b == (byte "]")) Close
    (cond (b == (byte "^")) Caret Other)))))

-- ---- steps

-- what a reading finds at the front of a text: something, and the text that is left behind it, or a fault
pub data Found (A : Type 0) : Type 0 where
  found : A → List ℕ → Found A
  faulty : LineFault → Found A

-- the set of all letters
abbrev pub every : ℕ → ℕ
every K = 2 ^ K - 1

-- at the ], after the letters of the set: there has to be one
unfoldable pub closed : ℕ → List ℕ → Found ℕ
closed set t = cond (set == 0) (faulty BadSet) (found set t)

-- inside brackets: by the next sign, with the letters that were read before it
unfoldable pub in_set : (ℕ → Found ℕ) → ℕ → List ℕ → Sign → Found ℕ
in_set more had t (Letter a) = more (bit_or had (2 ^ a))
in_set more had t Dot = faulty BadSet
in_set more had t Open = faulty BadSet
in_set more had t Close = closed had t
in_set more had t Caret = faulty BadSet
in_set more had t Other = faulty BadSet

-- the letter signs up to the ], and it
unfoldable pub set_of : ℕ → ℕ → List ℕ → Found ℕ
set_of K had [] = faulty BadSet
set_of K had (b ∷ t) = in_set (λ now. set_of K now t) had t (sign_of K b)

-- all letters but those of the set: there has to be one
unfoldable pub others_of : ℕ → Found ℕ → Found ℕ
others_of K (found set t) = cond (set == every K) (faulty NoLetter) (found (every K - set) t)
others_of K (faulty f) = faulty f

-- after a [
unfoldable pub bracket_of : ℕ → List ℕ → Found ℕ
bracket_of K [] = faulty BadSet
bracket_of K (b ∷ t) = cond (b == (byte "^")) (others_of K (set_of K 0 t)) (set_of K 0 (b ∷ t))

-- by the first sign of a step
unfoldable pub by_sign : ℕ → List ℕ → Sign → Found ℕ
by_sign K t (Letter a) = found (2 ^ a) t
by_sign K t Dot = found (every K) t
by_sign K t Open = bracket_of K t
by_sign K t Close = faulty BadSign
by_sign K t Caret = faulty BadSign
by_sign K t Other = faulty BadSign

-- a step at the front of the text
unfoldable pub step_of : ℕ → List ℕ → Found ℕ
step_of K [] = faulty BadSign
step_of K (b ∷ t) = by_sign K t (sign_of K b)

-- ---- lines

-- how a line goes on: it ends here, or has one more step, or a fault
pub data Next : Type 0 where
  ended : List ℕ → Next
  step : ℕ → List ℕ → Next
  wrong : LineFault → Next

-- a step that was looked for is the line's next
unfoldable pub as_next : Found ℕ → Next
as_next (found set t) = step set t
as_next (faulty f) = wrong f

-- how the line goes on at the front of the text: byte 10 ends it
unfoldable pub next_of : ℕ → List ℕ → Next
next_of K [] = wrong BadSign
next_of K (b ∷ t) = cond (b == (byte "\n")) (ended t) (as_next (step_of K (b ∷ t)))

-- there is no room for one more step
unfoldable pub at_last : List ℕ → Next → Found (List ℕ)
at_last had (ended t) = found had t
at_last had (step set t) = faulty TooManySteps
at_last had (wrong f) = faulty f

-- there is: the line goes on behind it
unfoldable pub goes_on_by : (List ℕ → List ℕ → Found (List ℕ)) → List ℕ → Next → Found (List ℕ)
goes_on_by more had (ended t) = found had t
goes_on_by more had (step set t) = more (had ++ set ∷ []) t
goes_on_by more had (wrong f) = faulty f

-- the steps up to the line's end, after those that were read: there is room for so many more
unfoldable pub steps_of : ℕ → ℕ → List ℕ → List ℕ → Found (List ℕ)
steps_of K zero had t = at_last had (next_of K t)
steps_of K (suc room) had t = goes_on_by (steps_of K room) had (next_of K t)

-- a line has to have a step
unfoldable pub filled : Found (List ℕ) → Found (List ℕ)
filled (found [] t) = faulty EmptyLine
filled (found (s ∷ ss) t) = found (s ∷ ss) t
filled (faulty f) = faulty f

-- the pattern of the line at the front of the text, where there is room for so many steps
unfoldable pub line_of : ℕ → ℕ → List ℕ → Found (List ℕ)
line_of K room t = filled (steps_of K room [] t)

-- ---- plans

-- a line that was read is followed by the others; a fault is refused with the line's number
unfoldable pub by_line : (List ℕ → List ℕ → Result (List (List ℕ)) PlanRefusal) → ℕ → Found (List ℕ) → Result (List (List ℕ)) PlanRefusal
by_line more line (found p t) = more p t
by_line more line (faulty f) = Err (Line line f)

-- the lines up to the text's end, after those that were read: there is room for so many more lines and steps
unfoldable pub lines_of : ℕ → ℕ → ℕ → List (List ℕ) → List ℕ → Result (List (List ℕ)) PlanRefusal
lines_of K left room had [] = Ok had
lines_of K zero room had (b ∷ t) = Err (Line (length had + 1) TooManyLines)
lines_of K (suc left) room had (b ∷ t) =
    by_line (λ p rest. lines_of K left (room - length p) (had ++ p ∷ []) rest) (length had + 1) (line_of K room (b ∷ t))

-- the text has at most 65,536 bytes, and the last one ends a line
abbrev pub whole : List ℕ → Bool
whole text = nat_le (length text) 65536 && slice_index text (length text - 1) == (byte "\n")

-- the plan that the text writes over K letters, or why it writes none: at most 32 letters, 32 lines and 64 steps
unfoldable pub read_plan : ℕ → List ℕ → Result (List (List ℕ)) PlanRefusal
read_plan K text = cond (between 1 32 K) (cond (whole text) (lines_of K 32 64 [] text) (Err Text)) (Err Letters)
