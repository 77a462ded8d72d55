-- A record that is written is read back.
use Rattle.std.specs.Prelude.{ℕ, ◌≤◌, ◌<◌, ◌≡◌, refl, Bool, List, ◌++◌, length, get_or}
use Rattle.std.proofs.Common.{ap, ◌∙◌, arith, eq-eqb, ne_eqb, le-leb}
use Rattle.little_endian.specs.Bytes.{bytes}
use Rattle.little_endian.specs.Laws.Numbers.{little-bytes}
use Rattle.script.specs.declared.kinds.Step.TheVariants.{Remove, Move}
use Rattle.script.specs.Records.{widened, length_of, moved_of, record_of, step_of, step_len}
use Rattle.script.specs.Laws.Written.{Record, remove, move, run, written, said, Fits}

-- A good mark with enough bytes is a record.
pub whole : (s : List ℕ) (last : Bool) → 2 ≤ length s → get_or s 0 0 ≡ 89 → 0 < length_of (get_or s 1 0) → length_of (get_or s 1 0) ≤ length s → step_of s last ≡ record_of (get_or s 1 0) s
unfolding step_of
whole s last h y m k =
    simp (
      ne_eqb (length s) 0 (omega arith),
      eq-eqb (get_or s 0 0) 89 y,
      ne_eqb (length s) 1 (omega arith),
      ne_eqb (length_of (get_or s 1 0)) 0 (omega arith),
      le-leb (length_of (get_or s 1 0)) (length s) k,
    )

-- What stands at the start of a record's bytes is what the record says, whatever stands behind them.
pub read_back : (r : Record) (rest : List ℕ) (last : Bool) → Fits r → step_of (written r ++ rest) last ≡ said r
unfolding written bytes record_of moved_of
read_back (remove e) rest last h = whole (written (remove e) ++ rest) last (omega arith) refl (omega arith) (omega arith) ∙ ap Remove (little-bytes 8 e h)
read_back (move e g x y z) rest last h =
    whole (written (move e g x y z) ++ rest) last (omega arith) refl (omega arith) (omega arith)
    ∙ ap Move (λ j. record {
      entity = little-bytes 8 e h.0 j;
      grid = little-bytes 8 g h.1 j;
      x = widened (little-bytes 4 x h.2 j);
      y = widened (little-bytes 4 y h.3 j);
      z = widened (little-bytes 4 z h.4 j);
    })
read_back run rest last h = whole (written run ++ rest) last (omega arith) refl (omega arith) (omega arith)

-- A record has as many bytes as its step says.
pub written-length : (r : Record) → length (written r) ≡ step_len (said r)
unfolding written bytes
written-length (remove e) = refl
written-length (move e g x y z) = refl
written-length run = refl
