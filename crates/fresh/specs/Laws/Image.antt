-- The image of a fresh state: zeros, and the first id and the kind in the header.
use Rattle.std.specs.Prelude.{ℕ, ◌+◌, ◌-◌, ◌<◌, ◌≤◌, ◌≡◌, Bool, true, cond, not, length, drop, set, replicate}
use Rattle.std.proofs.Common.{arith, sym, ◌∙◌}
use Rattle.std.proofs.Math.Path.{ap}
use Rattle.std.proofs.Math.Bool.{false}
use mathlib.Core.List.{List, ◌∷◌, ◌++◌}
use Rattle.std.proofs.lemmas.List.{length-replicate, replicate-append-replicate}
use borrow.Author.Tests.{le-leb, lt-leb, lt-ltb, le-ltb}
use Rattle.refusal.specs.Forms.{Refused}
use Rattle.refusal.specs.Forms as form
use Rattle.refusal.specs.Forms.{none, too_short, unknown_kind}
use Rattle.model.specs.Cells.{is_kind}
use Rattle.model.specs.Update.{last_next, few_ids, fresh}
use Rattle.table.specs.Moves.{over}
use Rattle.layout.specs.Widths.{header_len, next_id_at, kind_at, spare}
use Rattle.layout.specs.State.{entities_len, cells_len, net_len, ids_len, groups_len, state_len, encode}
use Rattle.layout.specs.Points.{long_enough}
use Rattle.layout.proofs.Laws.Images.{entities-laws, cells-laws, net-laws, ids-laws, groups-laws}
use Rattle.layout.proofs.Laws.Lengths.{header-end, entities-end, cells-end, occupied-end, emptied-end, ids-end, groups-end}
use Rattle.fresh.specs.Answer.{fresh_of}

-- The header of a fresh state.
abbrev first_words : ℕ → ℕ → List ℕ
first_words first kind = 0 ∷ 0 ∷ 0 ∷ 0 ∷ 0 ∷ 0 ∷ first ∷ kind ∷ replicate (header_len - spare) 0

-- How many words the tables have.
abbrev table_words : ℕ
table_words = entities_len + (cells_len + (net_len + (net_len + (ids_len + groups_len))))

all_words : state_len ≡ header_len + table_words
all_words = omega (arith, header-end, entities-end, cells-end, occupied-end, emptied-end, ids-end, groups-end)

zeros-together : (a b c d e g : ℕ) → replicate a 0 ++ (replicate b 0 ++ (replicate c 0 ++ (replicate d 0 ++ (replicate e 0 ++ replicate g 0)))) ≡ replicate {A = ℕ} (a + (b + (c + (d + (e + g))))) 0
zeros-together a b c d e g = simp replicate-append-replicate

-- The image of a fresh state is its header and zeros.
encode-fresh : (first kind : ℕ) → encode (fresh first kind) ≡ first_words first kind ++ replicate table_words 0
unfolding encode
encode-fresh first kind =
    ap (λ (l : List ℕ). first_words first kind ++ l)
    ((λ i. entities-laws.none entities_len i
    ++ (cells-laws.none cells_len i
    ++ (net-laws.none net_len i
    ++ (net-laws.none net_len i
    ++ (ids-laws.none ids_len i ++ groups-laws.none groups_len i)))))
    ∙ zeros-together entities_len cells_len net_len net_len ids_len groups_len)

-- Zeros over the first n words.
zeros-over : (w : List ℕ) (n : ℕ) → over w 0 (replicate n 0) ≡ replicate n 0 ++ drop n w
unfolding over
zeros-over w n = let e : 0 + length (replicate {A = ℕ} n 0) ≡ n = omega (arith, length-replicate {A = ℕ} n 0) in ap (λ (m : ℕ). replicate n 0 ++ drop m w) e

-- The two words of the header set.
abbrev pub begun : List ℕ → ℕ → ℕ → List ℕ
begun w first kind = set (set w next_id_at first) kind_at kind

header-set : (m first kind : ℕ) (d : List ℕ) → begun (replicate (header_len + m) 0 ++ d) first kind ≡ (first_words first kind ++ replicate m 0) ++ d
header-set m first kind d = ap (λ (l : List ℕ). begun (l ++ d) first kind) (sym (replicate-append-replicate header_len m 0))

-- Zeros over the words of a state, with the first id and the kind in the header, are the image of a fresh state.
pub fresh-image : (w : List ℕ) (first kind : ℕ) → begun (over w 0 (replicate state_len 0)) first kind ≡ encode (fresh first kind) ++ drop state_len w
fresh-image w first kind =
    ap (λ (l : List ℕ). begun l first kind) (zeros-over w state_len)
    ∙ ap (λ (n : ℕ). begun (replicate n 0 ++ drop state_len w) first kind) all_words
    ∙ header-set table_words first kind (drop state_len w)
    ∙ ap (λ (l : List ℕ). l ++ drop state_len w) (sym (encode-fresh first kind))

-- The header is within the words of a state.
pub header-within : kind_at < state_len
header-within = omega (arith, all_words)

-- What is answered and left, by the three tests.
abbrev pub answered : List ℕ → ℕ → ℕ → Bool → Bool → Bool → Refused × List ℕ
answered w first kind l k f =
    cond (not l) (too_short, w) (cond (not k) (unknown_kind, w) (cond f (form.few_ids, w) (none, encode (fresh first kind) ++ drop state_len w)))

module _ (w : List ℕ) (first kind n : ℕ) (e : n ≡ state_len) where
  -- Too few words.
  pub fresh-short : length w < n → (too_short, w) ≡ fresh_of w first kind
  unfolding fresh_of
  fresh-short h = let l : long_enough w ≡ false = lt-leb state_len (length w) (omega arith) in λ i. answered w first kind (sym l i) (is_kind kind) (few_ids first)

  module _ (h : n ≤ length w) where
    long-enough : long_enough w ≡ true
    long-enough = le-leb state_len (length w) (omega arith)

    -- A kind that is none of the three.
    pub fresh-unknown : is_kind kind ≡ false → (unknown_kind, w) ≡ fresh_of w first kind
    unfolding fresh_of
    fresh-unknown k = λ i. answered w first kind (sym long-enough i) (sym k i) (few_ids first)

    module _ (k : is_kind kind ≡ true) where
      -- Too few ids.
      pub fresh-late : last_next < first → (form.few_ids, w) ≡ fresh_of w first kind
      unfolding fresh_of
      fresh-late f = λ i. answered w first kind (sym long-enough i) (sym k i) (sym (lt-ltb last_next first f) i)

      -- A fresh state.
      pub fresh-done : first ≤ last_next → (v : List ℕ) → v ≡ over w 0 (replicate n 0) → (none, begun v first kind) ≡ fresh_of w first kind
      unfolding fresh_of
      fresh-done f v g =
          ap (λ (l : List ℕ). (none, begun l first kind)) (g ∙ ap (λ (m : ℕ). over w 0 (replicate m 0)) e)
          ∙ ap (λ (l : List ℕ). (none, l)) (fresh-image w first kind)
          ∙ (λ i. answered w first kind (sym long-enough i) (sym k i) (sym (le-ltb last_next first f) i))
