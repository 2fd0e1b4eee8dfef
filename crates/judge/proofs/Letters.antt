-- A word in a buffer, with one letter more at its end.
use Rattle.std.proofs.Common.{◌≡◌, ℕ, ◌+◌, ◌<◌, ◌≤◌, List, [], ◌∷◌, ◌++◌, reverse, length, drop, set, sym, ap, ◌∙◌, arith}
use Rattle.std.proofs.lemmas.List.{drop_more, set_at, length-reverse, reverse-append, append_assoc, length-append, length-drop}
use Rattle.exploration.specs.Links.{parent_at, letter_at}
use Rattle.exploration.specs.Cells.{text_at}
use Rattle.exploration.proofs.Links.{spell_last}
use Rattle.judge.specs.Words.{Spellable, Spelt}

-- the text t stands turned round at the front of the buffer; the letter x is written behind it
lettered : (t w : List ℕ) (x : ℕ) → length t < length w → set (reverse t ++ drop (length t) w) (length t) x ≡ reverse (x ∷ t) ++ drop (length t + 1) w
lettered t w x h =
    ap (λ (d : List ℕ). set (reverse t ++ d) (length t) x) (drop_more w (length t) 0 h)
    ∙ set_at (reverse t) _ (drop (length t + 1) w) x (length t) (length-reverse t)
    ∙ sym (append_assoc (reverse t) (x ∷ []) (drop (length t + 1) w))
    ∙ ap (λ (d : List ℕ). d ++ drop (length t + 1) w) (sym (reverse-append (x ∷ []) t))

pub longer : (t : List ℕ) (r x : ℕ) → r ≡ length t → length (reverse (x ∷ t)) ≡ r + 1
longer t r x e = length-reverse (x ∷ t) ∙ omega arith

pub written_on : (t before w : List ℕ) (r x : ℕ) → r ≡ length t → w ≡ reverse t ++ drop (length t) before → length t < length before → set w r x ≡ reverse (x ∷ t) ++ drop (r + 1) before
written_on t before w r x e h l =
    (λ i. set (h i) (e i) x) ∙ lettered t before x l ∙ ap (λ (n : ℕ). reverse (x ∷ t) ++ drop (n + 1) before) (sym e)

-- the buffer stays as long as it was
pub as_long : (t before w : List ℕ) → w ≡ reverse t ++ drop (length t) before → length t ≤ length before → length w ≡ length before
as_long t before w h l =
    ap length h ∙ length-append (reverse t) (drop (length t) before) ∙ omega (arith, length-reverse t, length-drop (length t) before)

module _ {K : ℕ} {c : List ℕ} {at : ℕ} {word : List ℕ} (s : Spellable K c at word) (pos : 0 < at) where
  pub parent_below : parent_at K c at < at
  parent_below = s.linked.links at pos (omega arith)

  text_more : text_at K c at ≡ letter_at K c at ∷ text_at K c (parent_at K c at)
  text_more = spell_last (parent_at K c) (letter_at K c) (at + 1) at s.linked.links pos (omega arith)

  pub parent_room : length (text_at K c (parent_at K c at)) < length word
  parent_room = omega (arith, s.room, ap length text_more)

  pub spellable_parent : Spellable K c (parent_at K c at) word
  spellable_parent =
      let below = parent_below in
      record {
        some = s.some;
        linked = record { links = λ k z l. s.linked.links k z (omega arith); within = omega (arith, s.linked.within) };
        room = omega (arith, parent_room);
      }

  module _ {w : List ℕ} {r : ℕ} (h : Spelt K c (parent_at K c at) word w r) where
    pub spelt_room : r < length w
    spelt_room = omega (arith, h.length_is, parent_room, as_long (text_at K c (parent_at K c at)) word w h.held (omega (arith, parent_room)))

    pub spelt_more : Spelt K c at word (set w r (letter_at K c at)) (r + 1)
    spelt_more =
        let t = text_at K c (parent_at K c at) in
        let x = letter_at K c at in
        let e = text_more in
        record {
          length_is = omega (arith, h.length_is, ap length e);
          held = written_on t word w r x h.length_is h.held parent_room ∙ ap (λ (n : ℕ). reverse (x ∷ t) ++ drop n word) (omega (arith, h.length_is, ap length e)) ∙ ap (λ (u : List ℕ). reverse u ++ drop (length (text_at K c at)) word) (sym e);
        }
