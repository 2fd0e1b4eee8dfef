-- The steps of a walk over cells.
use Rattle.std.proofs.Common.{◌≡◌, ℕ, ◌+◌, ◌*◌, ◌<◌, ◌≤◌, List, ◌∷◌, length, sym, refl, ap, ◌∙◌, arith, length-set}
use Rattle.automaton.specs.Machines.{dead, wrong, to, Machine}
use Rattle.exploration.specs.Verdicts.{AllFound, FirstFault, More}
use Rattle.exploration.specs.Links.{node_at, cells, written}
use Rattle.automaton.specs.Judging.{Node}
use Rattle.exploration.specs.Cells.{text_at, Sound, Traceable, Among, NotAmong, WalksAreSound}
use Rattle.exploration.proofs.Cover.{first_fault_here, whole}
use Rattle.exploration.proofs.Keep.{begins, goes_on_dead, goes_on_known, goes_on_new, row_ends, more_here, more_fewer}
use Rattle.exploration.proofs.Links.{writes, written_node}

pub length_written : (K : ℕ) (c : List ℕ) (m i a : ℕ) (n : Node) → length (written K c m i a n) ≡ length c
length_written K c m i a n = simp length-set

module _ (K : ℕ) (M : Machine Node) (c : List ℕ) where
  pub settle_start : 4 ≤ length c → Sound K M (written K c 0 0 0 M.start) 1 0 0
  settle_start h = record {
    stage = begins K M (cells K (written K c 0 0 0 M.start) 1) refl (written_node K c 0 0 0 M.start h) refl;
    links = λ k z l. absurd (omega arith);
    fits = rw (length_written K c 0 0 0 M.start) h;
  }

module _ {K : ℕ} {M : Machine Node} {c : List ℕ} {m i a : ℕ} (s : Sound K M c m i a) where
  pub settle_end : m ≤ i → AllFound K M (cells K c m)
  settle_end = whole s.stage

  module _ (li : i < m) where
    pub settle_row : K ≤ a → Sound K M c m (i + 1) 0
    settle_row h = record { stage = row_ends s.stage li h; links = s.links; fits = s.fits }

    pub settle_trace : Traceable K c i
    settle_trace = record { links = λ k z l. s.links k z (omega arith); within = omega (arith, s.fits) }

    pub settle_dead : M.step (node_at c i) a ≡ dead → Sound K M c m i (a + 1)
    settle_dead e = record { stage = goes_on_dead s.stage li e; links = s.links; fits = s.fits }

    module _ (la : a < K) where
      pub settle_wrong : M.step (node_at c i) a ≡ wrong → FirstFault K M (cells K c m) (a ∷ text_at K c i)
      settle_wrong = first_fault_here s.stage li la

      module _ {n : Node} (e : M.step (node_at c i) a ≡ to n) where
        pub settle_known : Among c m n → Sound K M c m i (a + 1)
        settle_known (t, lt, f) = record { stage = goes_on_known s.stage li t lt (e ∙ ap to (sym f)); links = s.links; fits = s.fits }

        pub settle_new : NotAmong c m n → 4 * m + 4 ≤ length c → Sound K M (written K c m i a n) (m + 1) i (a + 1)
        settle_new h room =
            let x = writes K c m i a n (omega arith) room li la s.links in
            record {
              stage = goes_on_new s.stage li la e h x.0;
              links = x.1;
              fits = rw (length_written K c m i a n) (omega arith);
            }

        pub settle_full : NotAmong c m n → {r : ℕ} → r ≤ m → More K M r (a ∷ text_at K c i)
        settle_full h l = more_fewer l (more_here s.stage li la e h)

pub walks_are_sound_lem : WalksAreSound
walks_are_sound_lem K M c =
    record {
      begins = settle_start K M c;
      row_ends = λ m i a s li h. settle_row s li h;
      all_done = λ m i a s h. settle_end s h;
      goes_nowhere = λ m i a s li e. settle_dead s li e;
      faults = λ m i a s li la e. settle_wrong s li la e;
      finds_known = λ m i a n s li la e h. settle_known s li la e h;
      finds_new = λ m i a n s li la e h room. settle_new s li la e h room;
      finds_no_room = λ m i a n s li la e h r l. settle_full s li la e h l;
    }
