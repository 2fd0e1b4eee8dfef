-- Where a search is, in code and in theory, and that its numbers are small.
--   conf_of   the configuration that a spot stands for
--   looked    the same with one cell more looked at, unless the row's front was passed
--   Roomy     no number comes near its bound: a row has at most 2 ^ 24 cells, and no jump is longer than 255
--   Along     ticks lead from one configuration to another, and find nothing
--   Onward    what the search keeps as it goes on from one spot to another
use Rattle.std.specs.Prelude.{◌≡◌, ℕ, ◌+◌, ◌*◌, ◌≤◌, List, Option}
use Rattle.automaton.specs.Automata.{Automaton}
use Rattle.automaton.specs.Search.{Conf, Going, counted, noticed, tick, left}
use Rattle.reading.specs.declared.spot.Spot.{Spot}

abbrev pub conf_of : Spot → Conf
conf_of s = record { p = s.p; o = s.o; q = s.q; c = s.c; fetches = s.fetches; damaged = s.damaged }

abbrev pub looked : List (Option ℕ) → Conf → Conf
looked row k = record { p = k.p; o = k.o; q = k.q; c = k.c; fetches = counted k; damaged = noticed row k }

-- 16777472 is 2 ^ 24 + 2 ^ 8
abbrev pub Roomy : Spot → Type 0
Roomy s = (s.o ≤ s.p + 1) × (s.p ≤ 16777472) × (s.fetches ≤ s.p * 16777472 + s.o)

pub data Along (sheet : Automaton) (least : ℕ) (row : List (Option ℕ)) : Conf → Conf → Type 0 where
  here : {k : Conf} → Along sheet least row k k
  on : {k k₁ k₂ : Conf} → Along sheet least row k k₁ → tick sheet least row k₁ ≡ Going k₂ → Along sheet least row k k₂

pub record Onward (sheet : Automaton) (least : ℕ) (row : List (Option ℕ)) (from to : Spot) : Type 0 where
  pub along : Along sheet least row (conf_of from) (conf_of to)
  pub roomy : Roomy to
  pub more : from.fetches ≤ to.fetches
  pub nearer : left row (conf_of to) ≤ left row (conf_of from)
