-- Whole records, the first one and the others; and what is gathered of them.
use Prim.Native.Nat.{ℕ, suc, ◌+◌, ◌-◌, ◌<◌, ◌≤◌}
use native.Mathlib.Omega.{arith}
use mathlib.Core.Path.{◌≡◌, refl, sym, ap, ◌∙◌, subst}
use mathlib.Core.Bool.{Bool, true, false, cond, ◌||◌}
use mathlib.Core.List.{List, [], ◌∷◌, ◌++◌, append-nil, append_assoc}
use borrow.Author.Tests.{eq-eqb, ne_eqb}
use lib.Dec.{eqb}
use lib.ListN.{length, take, drop, length-append, length-drop}
use lib.Seq.{take_at, drop_at, drop-drop, length-take-le, paste, take-paste, drop-paste}
use Rattle.settings.specs.Records.{size_of, grid_of}
use Rattle.settings.specs.Keeping.{has, keep_last, joined}
use Rattle.settings.specs.Whole.{Ones, none, more, Whole, Gathered}
use Rattle.settings.proofs.Laws.Records.{one_size, one-sized, grid-front}
use Rattle.settings.proofs.Laws.Keeping.{keep-by, keep-none}
use Rattle.settings.specs.Table.{mark_of}
use Rattle.settings.proofs.Laws.Marks.{mark-more, mark-has, mark-front}
use Rattle.settings.proofs.Laws.Parsing.{joined-more, joined-none}
use Rattle.settings.proofs.Parts.{part, part_length, part-start, part-drop, part-take}

-- Records of which the first is at the start of bytes.
pub record Front (todo : List (List ℕ)) (w : List ℕ) : Type 0 where
  pub first : List ℕ
  pub others : List (List ℕ)
  pub same : todo ≡ first ∷ others
  pub long : 12 ≤ size_of w
  pub within : size_of w ≤ length w
  pub taken : take (size_of w) w ≡ first
  pub grid : grid_of w ≡ grid_of first
  pub behind : Whole others (drop (size_of w) w)

front_of : (todo : List (List ℕ)) → Ones true todo → 0 < length (joined todo) → Front todo (joined todo)
unfolding joined
front_of [] none h = absurd (omega arith)
front_of (r ∷ rs) (more o os) h =
    let c = joined rs in
    let s = one-sized c o in
    let l = one_size o in
    let n = length-append r c in
    record {
      first = r;
      others = rs;
      same = refl;
      long = omega arith;
      within = omega arith;
      taken = ap (λ (k : ℕ). take k (r ++ c)) s ∙ take_at r c (length r) refl;
      grid = grid-front r c l.0;
      behind = record { ones = os; same = ap (λ (k : ℕ). drop k (r ++ c)) s ∙ drop_at r c (length r) refl };
    }

-- Bytes that are whole records, and not none, start with the first.
pub front : {todo : List (List ℕ)} {w : List ℕ} → Whole todo w → 0 < length w → Front todo w
front {todo} {w} h l = subst (Front todo) (sym h.same) (front_of todo h.ones (subst (λ (t : List ℕ). 0 < length t) h.same l))

none_of : (todo : List (List ℕ)) → Ones true todo → length (joined todo) ≡ 0 → todo ≡ []
unfolding joined
none_of [] none h = refl
none_of (r ∷ rs) (more o os) h = let n = length-append r (joined rs) in let l = one_size o in absurd (omega arith)

-- No bytes are no records.
pub no-records : {todo : List (List ℕ)} {w : List ℕ} → Whole todo w → length w ≡ 0 → todo ≡ []
no-records {todo} {w} h l = none_of todo h.ones (sym (ap length h.same) ∙ l)

module _ (g : ℕ) where
  pub has-none : {todo : List (List ℕ)} → todo ≡ [] → has g todo ≡ false
  unfolding has
  has-none e = ap (has g) e

  pub has_first : {todo : List (List ℕ)} {w : List ℕ} (f : Front todo w) → grid_of w ≡ g → has g todo ≡ true
  unfolding has
  has_first f e = ap (has g) f.same ∙ simp (eq-eqb (grid_of f.first) g (sym f.grid ∙ e))

  pub has-others : {todo : List (List ℕ)} {w : List ℕ} (f : Front todo w) → (grid_of w ≡ g → ⊥) → has g todo ≡ has g f.others
  unfolding has
  has-others f n = ap (has g) f.same ∙ simp (ne_eqb (grid_of f.first) g (λ e. n (f.grid ∙ e)))

first-has : {todo : List (List ℕ)} {w : List ℕ} {t : Bool} (f : Front todo w) → has (grid_of w) f.others ≡ t → has (grid_of f.first) f.others ≡ t
first-has f e = ap (λ (g : ℕ). has g f.others) (sym f.grid) ∙ e

-- A first record whose grid has a later one is not kept.
pub skipped : {todo : List (List ℕ)} {w : List ℕ} (f : Front todo w) → has (grid_of w) f.others ≡ true → keep_last todo ≡ keep_last f.others
skipped f e = ap keep_last f.same ∙ keep-by f.first f.others (first-has f e)

-- Any other first record is kept.
pub kept : {todo : List (List ℕ)} {w : List ℕ} (f : Front todo w) → has (grid_of w) f.others ≡ false → keep_last todo ≡ f.first ∷ keep_last f.others
kept f e = ap keep_last f.same ∙ keep-by f.first f.others (first-has f e)

module _ (g : ℕ) {todo : List (List ℕ)} {w : List ℕ} (f : Front todo w) where
  or-true : (t : Bool) → (t || true) ≡ true
  or-true true = refl
  or-true false = refl

  -- A grid that the others have, all have.
  has-too : has g f.others ≡ true → has g todo ≡ true
  unfolding has
  has-too h = ap (has g) f.same ∙ ap (λ (t : Bool). eqb (grid_of f.first) g || t) h ∙ or-true (eqb (grid_of f.first) g)

  -- Its mark is the same among them.
  pub mark-others : has g f.others ≡ true → mark_of g 0 todo ≡ mark_of g 0 f.others
  mark-others h =
      ap (mark_of g 0) f.same ∙ mark-more g 0 f.first f.others
      ∙ mark-has g f.others h (cond (eqb (grid_of f.first) g) (suc (length (joined f.others))) 0) 0

  pub has_here : grid_of w ≡ g → has g todo ≡ true
  has_here e = has_first g f e

-- What is still to be gathered of the bytes from at to n, where those before to are gathered: s₀ was there first, and rs are its records.
pub record Left (s₀ s : List ℕ) (at to n : ℕ) (rs : List (List ℕ)) : Type 0 where
  pub todo : List (List ℕ)
  pub whole : Whole todo (part s at n)
  pub same : take to s ++ joined (keep_last todo) ≡ joined (keep_last rs)
  pub marks : (g : ℕ) → has g todo ≡ true → mark_of g 0 rs ≡ mark_of g 0 todo
  pub rest : drop n s ≡ drop n s₀

-- At first all is to be gathered.
pub left-start : (s : List ℕ) (n : ℕ) (rs : List (List ℕ)) → Whole rs (take n s) → Left s s 0 0 n rs
left-start s n rs w = record { todo = rs; whole = subst (Whole rs) (sym (part-start s n)) w; same = refl; marks = λ g h. refl; rest = refl }

module _ {s₀ s : List ℕ} {at to n : ℕ} {rs : List (List ℕ)} (l : Left s₀ s at to n rs) (here : at < n) (room : n ≤ length s) where
  -- The record at the place.
  pub place : Front l.todo (part s at n)
  place = let e = part_length s at n (omega arith) room in front l.whole (omega arith)

  -- It lies within the bytes.
  pub placed : (k : ℕ) → k ≡ size_of (part s at n) → (12 ≤ k) × (at + k ≤ n) × (12 ≤ length (part s at n))
  placed k s' =
      let e = part_length s at n (omega arith) room in
      let f = place in
      let a = f.long in
      let b = f.within in
      (omega arith, omega arith, omega arith)

  pub others : (k : ℕ) → k ≡ size_of (part s at n) → Whole place.others (part s (at + k) n)
  others k e = subst (Whole place.others) (part-drop s at n (size_of (part s at n)) ∙ ap (λ (j : ℕ). part s (at + j) n) (sym e)) place.behind

  -- What the mark of its grid is among the others.
  pub later : (k g : ℕ) → k ≡ size_of (part s at n) → g ≡ grid_of (part s at n) → mark_of g 0 rs ≡ mark_of g (suc (length (part s (at + k) n))) place.others
  later k g e d =
      let f = place in
      l.marks g (has_here g f (sym d))
      ∙ ap (mark_of g 0) f.same
      ∙ mark-front g f.first f.others (sym (d ∙ f.grid))
      ∙ ap (λ (x : List ℕ). mark_of g (suc (length x)) f.others) (sym (others k e).same)

  marks-others : (g : ℕ) → has g place.others ≡ true → mark_of g 0 rs ≡ mark_of g 0 place.others
  marks-others g h = l.marks g (has-too g place h) ∙ mark-others g place h

  module _ {k g : ℕ} {t : Bool} (e : k ≡ size_of (part s at n)) (d : g ≡ grid_of (part s at n)) (q : t ≡ has g place.others) where
    told : {b : Bool} → t ≡ b → has (grid_of (part s at n)) place.others ≡ b
    told z = ap (λ (x : ℕ). has x place.others) (sym d) ∙ sym q ∙ z

    -- A record whose grid has a later one is passed over.
    pub left-skip : t ≡ true → Left s₀ s (at + k) to n rs
    left-skip z =
        record {
          todo = place.others;
          whole = others k e;
          same = ap (λ (m : List (List ℕ)). take to s ++ joined m) (sym (skipped place (told z))) ∙ l.same;
          marks = marks-others;
          rest = l.rest;
        }

    -- Any other is moved down.
    module _ {u : List ℕ} (z : t ≡ false) (h : to ≤ at) (p : u ≡ paste s to (drop at s) k) where
      moved : take (to + k) u ≡ take to s ++ place.first
      moved =
          let f = place in
          let w = part s at n in
          let c = placed k e in
          let d = length-drop at s in
          let r : take k (drop at s) ≡ f.first = sym (part-take s at n k c.1) ∙ ap (λ (j : ℕ). take j w) e ∙ f.taken in
          ap (take (to + k)) p ∙ take-paste s to (drop at s) k (omega arith) (omega arith) ∙ ap (λ (x : List ℕ). take to s ++ x) r

      -- Bytes behind those that were moved to are as they were.
      still : (i : ℕ) → to + k ≤ i → drop i u ≡ drop i s
      still i b =
          let c = placed k e in
          let d = length-drop at s in
          let j : i ≡ to + k + (i - (to + k)) = omega arith in
          ap (λ (x : ℕ). drop x u) j
          ∙ sym (drop-drop (i - (to + k)) (to + k) u)
          ∙ ap (drop (i - (to + k))) (ap (drop (to + k)) p ∙ drop-paste s to (drop at s) k (omega arith) (omega arith))
          ∙ drop-drop (i - (to + k)) (to + k) s
          ∙ ap (λ (x : ℕ). drop x s) (sym j)

      pub left-move : Left s₀ u (at + k) (to + k) n rs
      left-move =
          let f = place in
          let c = placed k e in
          record {
            todo = f.others;
            whole = subst (λ (x : List ℕ). Whole f.others (take (n - (at + k)) x)) (sym (still (at + k) (omega arith))) (others k e);
            same =
                ap (λ (x : List ℕ). x ++ joined (keep_last f.others)) moved
                ∙ append_assoc (take to s) f.first (joined (keep_last f.others))
                ∙ ap (λ (x : List ℕ). take to s ++ x) (sym (joined-more f.first (keep_last f.others)))
                ∙ ap (λ (x : List (List ℕ)). take to s ++ joined x) (sym (kept f (told z)))
                ∙ l.same;
            marks = marks-others;
            rest = still n (omega arith) ∙ l.rest;
          }

-- At the end all is gathered.
pub left_end : {s₀ s : List ℕ} {at to n : ℕ} {rs : List (List ℕ)} → Left s₀ s at to n rs → to ≤ at → at ≤ n → n ≤ at → n ≤ length s → Gathered (joined (keep_last rs)) s₀ n to s
left_end {s₀} {s} {at} {to} {n} {rs} l h i j m =
    let e = part_length s at n i m in
    let z = no-records l.whole (omega arith) in
    let f : take to s ≡ joined (keep_last rs) =
    sym (append-nil (take to s)) ∙ ap (λ (x : List ℕ). take to s ++ x) (sym (ap joined keep-none ∙ joined-none)) ∙ ap (λ (x : List (List ℕ)). take to s ++ joined (keep_last x)) (sym z) ∙ l.same in
    record { count = sym (length-take-le to s (omega arith)) ∙ ap length f; room = omega arith; front = f; rest = l.rest }
