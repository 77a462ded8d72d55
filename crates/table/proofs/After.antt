-- What a move leaves of the words of a table: the rows that stay, and zeros behind them.
use Prim.Native.Nat.{ℕ, suc, ◌+◌, ◌-◌, ◌*◌, ◌≤◌}
use native.Mathlib.Omega.{arith}
use mathlib.Core.Path.{◌≡◌, sym, ap, ◌∙◌}
use mathlib.Core.List.{List, ◌∷◌, ◌++◌, append_assoc}
use lib.ListN.{length, take, drop, replicate, length-append, length-drop, take-append-drop, replicate-append-replicate}
use lib.Seq.{slice, length-slice, drop-drop, length-take-le, drop-append-le}
use Rattle.std.proofs.lemmas.List.{drop-replicate}
use Rattle.model.specs.Lists.{gather}
use Rattle.model.proofs.Laws.Members.{gather_append}
use Rattle.table.specs.Moves.{over, inserted, closed}
use Rattle.table.specs.Rows.{Kind, row_of, table_of, image_of, stored_of}
use Rattle.table.specs.Laws.Kinds.{Lawful}
use Rattle.table.specs.Laws.Words.{words-front, words_back}

regroup : (a b c z : List ℕ) → a ++ (b ++ (c ++ z)) ≡ (a ++ (b ++ c)) ++ z
regroup a b c z = sym (simp append_assoc)

rejoin : (s : List ℕ) (a b : ℕ) → a ≤ b → b ≤ length s → drop a s ≡ slice a b s ++ drop b s
rejoin s a b p q =
    let e : length (take b s) ≡ b = length-take-le b s q in
    ap (λ (r : List ℕ). drop a r) (sym (take-append-drop b s)) ∙ drop-append-le a (take b s) (drop b s) (omega arith)

join-zeros : (a b c : ℕ) → a + b ≡ c → replicate a 0 ++ replicate b 0 ≡ replicate {A = ℕ} c 0
join-zeros a b c e = replicate-append-replicate a b 0 ∙ ap (λ (j : ℕ). replicate j 0) e

-- The moves, on words that end in zeros.
module _ (s : List ℕ) (e : ℕ) (fits : e ≤ length s) (zeros : drop e s ≡ replicate (length s - e) 0) (a : ℕ) where
  pub over-words : (row : List ℕ) (b : ℕ) → a + length row ≡ b → b ≤ e → over s a row ≡ (take a s ++ (row ++ slice b e s)) ++ replicate (length s - e) 0
  unfolding over
  over-words row b p h =
      ap (λ (j : ℕ). take a s ++ (row ++ drop j s)) p
      ∙ ap (λ (r : List ℕ). take a s ++ (row ++ r)) (rejoin s b e h fits)
      ∙ ap (λ (r : List ℕ). take a s ++ (row ++ (slice b e s ++ r))) zeros
      ∙ regroup (take a s) row (slice b e s) (replicate (length s - e) 0)

  pub inserted-words : (row : List ℕ) (w : ℕ) → length row ≡ w → inserted s a e row ≡ (take a s ++ (row ++ slice a e s)) ++ replicate (length s - (e + w)) 0
  unfolding inserted
  inserted-words row w p =
      let b : length s - e - w ≡ length s - (e + w) = omega arith in
      let z : drop (e + length row) s ≡ replicate (length s - (e + w)) 0 =
      ap (λ (j : ℕ). drop (e + j) s) p
      ∙ sym (drop-drop w e s)
      ∙ ap (λ (r : List ℕ). drop w r) zeros
      ∙ drop-replicate w (length s - e) 0
      ∙ ap (λ (j : ℕ). replicate j 0) b in
      ap (λ (r : List ℕ). take a s ++ (row ++ (slice a e s ++ r))) z
      ∙ regroup (take a s) row (slice a e s) (replicate (length s - (e + w)) 0)

  pub closed-words : (w b : ℕ) → a + w ≡ b → w ≤ e → closed s a e w ≡ (take a s ++ slice b e s) ++ replicate (length s - (e - w)) 0
  unfolding closed
  closed-words w b p h =
      ap (λ (j : ℕ). take a s ++ (slice j e s ++ (replicate w 0 ++ drop e s))) p
      ∙ ap (λ (r : List ℕ). take a s ++ (slice b e s ++ (replicate w 0 ++ r))) zeros
      ∙ ap (λ (r : List ℕ). take a s ++ (slice b e s ++ r)) (join-zeros w (length s - e) (length s - (e - w)) (omega arith))
      ∙ sym (append_assoc (take a s) (slice b e s) (replicate (length s - (e - w)) 0))

  -- The words before a and from b to e.
  pub ends-length : (b : ℕ) → a ≤ e → length (take a s ++ slice b e s) ≡ a + (e - b)
  ends-length b h = length-append (take a s) (slice b e s) ∙ omega (arith, length-take-le a s (omega arith), length-slice b e s fits)

  -- The same with a row between them.
  pub ends-row-length : (row : List ℕ) (b : ℕ) → a ≤ e → length (take a s ++ (row ++ slice b e s)) ≡ a + (length row + (e - b))
  ends-row-length row b h =
      length-append (take a s) (row ++ slice b e s)
      ∙ omega (arith, length-append row (slice b e s), length-take-le a s (omega arith), length-slice b e s fits)

-- The rows before i and from j on.
module _ {A : Type 0} (t : List A) (n : ℕ) (len : length t ≡ n) (i j : ℕ) (h : i ≤ n) where
  pub rows-length : length (take i t ++ drop j t) ≡ i + (n - j)
  rows-length = length-append (take i t) (drop j t) ∙ omega (arith, length-take-le i t (omega arith), length-drop j t)

  -- The same with a row between them.
  pub rows-row-length : (p : A) → length (take i t ++ (p ∷ drop j t)) ≡ i + suc (n - j)
  rows-row-length p = length-append (take i t) (p ∷ drop j t) ∙ omega (arith, length-take-le i t (omega arith), length-drop j t)

module _ {K : Type 0} (kind : Kind K) where
  -- Rows whose words are known, and zeros behind them, are stored.
  pub stored_is : (len n m : ℕ) (t : List (K × List ℕ)) (g x : List ℕ)
      → length t ≡ n → gather (row_of kind) t ≡ g → length g ≡ m → x ≡ g ++ replicate (len - m) 0 → (n, x) ≡ stored_of kind len t
  unfolding image_of
  stored_is len n m t g x l e k q =
      let z : g ++ replicate (len - m) 0 ≡ image_of kind len t =
      sym (ap (λ (r : List ℕ). r ++ replicate (len - length r) 0) e ∙ ap (λ (j : ℕ). g ++ replicate (len - j) 0) k) in
      λ j. (sym l j, (q ∙ z) j)

  module _ (laws : Lawful kind) (w n : ℕ) (s : List ℕ) (wide : kind.size ≤ w) (fits : w * n ≤ length s) (i j : ℕ) (h : i ≤ n) (k : j ≤ n) where
    pub ends_words : gather (row_of kind) (take i (table_of kind w n s) ++ drop j (table_of kind w n s)) ≡ take (w * i) s ++ slice (w * j) (w * n) s
    ends_words =
        gather_append (row_of kind) (take i (table_of kind w n s)) (drop j (table_of kind w n s))
        ∙ (λ t. words-front kind w laws wide n i s h fits t ++ words_back kind w laws wide n j s k fits t)

    pub ends-row-words : (row : List ℕ) → kind.size ≤ length row
        → gather (row_of kind) (take i (table_of kind w n s) ++ ((kind.read row, drop kind.size row) ∷ drop j (table_of kind w n s)))
        ≡ take (w * i) s ++ (row ++ slice (w * j) (w * n) s)
    ends-row-words row r =
        gather_append (row_of kind) (take i (table_of kind w n s)) ((kind.read row, drop kind.size row) ∷ drop j (table_of kind w n s))
        ∙ (λ t. words-front kind w laws wide n i s h fits t ++ (laws.writes row r t ++ words_back kind w laws wide n j s k fits t))
