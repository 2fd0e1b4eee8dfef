-- The stages of a walk, where the code holds the table.
use Rattle.std.proofs.Common.{◌≡◌, ℕ, ◌+◌, ◌≤◌, true, false, List, length, Some, None, Option, sym, ◌∙◌, arith}
use Rattle.std.specs.Option.{is_some}
use Rattle.automaton.specs.Machines.{Outcome, Machine}
use Rattle.automaton.specs.Judging.{Node}
use Rattle.exploration.specs.Links.{written}
use Rattle.exploration.specs.Cells.{Sound, Among, NotAmong}
use Rattle.exploration.proofs.Cells.{settle_start}
use Rattle.judge.specs.Tables.{words_of, Finds}
use Rattle.judge.proofs.Groups.{length_words}

pub moved : {K L : ℕ} {M : Machine Node} {c d : List ℕ} {m n i a : ℕ} → L ≡ K → d ≡ c → n ≡ m → Sound K M c m i a → Sound L M d n i a
moved e f g s = rw (e, f, g) s

pub begun : {K L : ℕ} {M : Machine Node} (es : List (List ℕ)) {d : List ℕ} {n : Node} {m k : ℕ} → L ≡ K → m ≡ 0 → d ≡ written K (words_of es) m 0 0 n → k ≡ m + 1 → M.start ≡ n → 1 ≤ length es → Sound L M d k 0 0
begun {K} {L} {M} es {d} {n} {m} {k} e z f g s h =
    let one : k ≡ 1 = omega arith in
    moved e (f ∙ (λ i. written K (words_of es) (z i) 0 0 (sym s i))) one (settle_start K M (words_of es) (omega (arith, length_words es)))

-- no more entries are in use than there are
pub room : {K : ℕ} {M : Machine Node} (es : List (List ℕ)) {m i a : ℕ} → Sound K M (words_of es) m i a → m ≤ length es
room es s = omega (arith, s.fits, length_words es)

-- what the look for a node tells
pub known : (c : List ℕ) (m : ℕ) (n : Node) (r : Option ℕ) → Finds c m n r → is_some r ≡ true → Among c m n
known c m n (Some k) f e = (k, f.0, f.1)
known c m n None f e = cc

pub unknown : (c : List ℕ) (m : ℕ) (n : Node) (r : Option ℕ) → Finds c m n r → is_some r ≡ false → NotAmong c m n
unknown c m n (Some k) f e = cc
unknown c m n None f e = f

-- what the code's step says of an entry
pub stepped : (M : Machine Node) {p q : Node} {a : ℕ} {o : Outcome Node} → q ≡ p → o ≡ M.step q a → M.step p a ≡ o
stepped M e h = cc
