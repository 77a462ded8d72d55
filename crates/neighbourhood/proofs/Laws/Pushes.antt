-- What is marked and queued once some rows are pushed.
use Prim.Native.Nat.{ℕ, suc, ◌+◌, ◌≤◌, ◌<◌}
use Rattle.std.proofs.Common.{add-zero, sym, ◌∙◌, subst, eqb-true, take-suc-set, drop-set-lt, get_or-set_same, get_or-set_other}
use native.Mathlib.Omega.{arith}
use Rattle.std.specs.Prelude.{◌≡◌, Bool, cond, ◌||◌, length, take, drop, get_or, set}
use Rattle.std.proofs.Math.Path.{refl, ap}
use Rattle.std.proofs.Math.Bool.{true, false}
use mathlib.Core.List.Memᴰ.{cast as mem-cast}
use mathlib.Core.List.Memᴰ.{head}
use mathlib.Core.List.Memᴰ.{tail}
use mathlib.Core.List.{List, [], ◌∷◌, ◌++◌, append_assoc, append-nil, Memᴰ as Mem}
use Rattle.std.proofs.lemmas.Bool.{eqb-false}
use Rattle.std.proofs.Math.Dec.{eqb}
use Rattle.std.proofs.Math.ListN.{length-set}
use Rattle.model.specs.Lists.{keep, has}
use Rattle.model.proofs.Laws.Members.{keep-ext, Once, once-head, once-tail}
use Rattle.neighbourhood.specs.Fronts.{Front, front, is_open, pushed}

-- The unmarked of some rows.
abbrev pub fresh : Front → List ℕ → List ℕ
fresh f l = keep (is_open f.marks) l

-- The rows R are marked and stand behind the queue, and nothing else changed.
pub record Pushed (label n : ℕ) (f : Front) (R : List ℕ) (g : Front) : Type 0 where
  pub end : g.end ≡ f.end + length R
  pub queued : take g.end g.queue ≡ take f.end f.queue ++ R
  pub behind : drop g.end g.queue ≡ drop g.end f.queue
  pub marked : (j : ℕ) → get_or g.marks j 0 ≡ cond (has eqb R j) label (get_or f.marks j 0)
  pub beyond : drop n g.marks ≡ drop n f.marks
  pub marks_kept : length g.marks ≡ length f.marks
  pub queue_kept : length g.queue ≡ length f.queue

module _ (label : ℕ) where
  -- The front after an unmarked row.
  abbrev pub onto : Front → ℕ → Front
  onto f x = front (suc f.end) (set f.marks x label) (set f.queue f.end x)

  -- A marked row first.
  pub pushed-old : (f : Front) (x : ℕ) (l : List ℕ) → is_open f.marks x ≡ false → pushed label f (x ∷ l) ≡ pushed label f l
  unfolding pushed
  pushed-old f x l e = ap (λ b. pushed label (cond b (onto f x) f) l) e

  -- An unmarked row first.
  pub pushed-new : (f : Front) (x : ℕ) (l : List ℕ) → is_open f.marks x ≡ true → pushed label f (x ∷ l) ≡ pushed label (onto f x) l
  unfolding pushed
  pushed-new f x l e = ap (λ b. pushed label (cond b (onto f x) f) l) e

  -- No row.
  pub pushed_none : (f : Front) → pushed label f [] ≡ f
  unfolding pushed
  pushed_none f = refl

  -- The end never goes back.
  pub pushed_grows : (l : List ℕ) (f : Front) → f.end ≤ (pushed label f l).end
  unfolding pushed
  pushed_grows [] f = omega arith
  pushed_grows (x ∷ l) f = go (is_open f.marks x) (pushed_grows l (onto f x)) (pushed_grows l f)
    where
      go : (b : Bool) → suc f.end ≤ (pushed label (onto f x) l).end → f.end ≤ (pushed label f l).end → f.end ≤ (pushed label (cond b (onto f x) f) l).end
      go true p q = omega arith
      go false p q = q

  module _ (n : ℕ) where
    over : (f : Front) (x : ℕ) (R : List ℕ) (g : Front) → x < n → n ≤ length f.marks → f.end < length f.queue → Pushed label n (onto f x) R g → Pushed label n f (x ∷ R) g
    over f x R g h m s p =
        let e = p.end in
        record {
          end = omega arith;
          queued = p.queued ∙ ap (λ l. l ++ R) (take-suc-set f.queue f.end x s) ∙ append_assoc (take f.end f.queue) (x ∷ []) R;
          behind = p.behind ∙ drop-set-lt g.end f.queue f.end x (omega arith);
          marked = λ j. p.marked j ∙ go j (eqb j x) refl;
          beyond = p.beyond ∙ drop-set-lt n f.marks x label h;
          marks_kept = p.marks_kept ∙ length-set f.marks x label;
          queue_kept = p.queue_kept ∙ length-set f.queue f.end x;
        }
      where
        twice : (b : Bool) → cond b label label ≡ label
        twice true = refl
        twice false = refl

        go : (j : ℕ) (b : Bool) → eqb j x ≡ b → cond (has eqb R j) label (get_or (set f.marks x label) j 0) ≡ cond (eqb j x || has eqb R j) label (get_or f.marks j 0)
        go j true u =
            ap (λ v. cond (has eqb R j) label v) (ap (λ i. get_or (set f.marks x label) i 0) (eqb-true j x u) ∙ get_or-set_same f.marks x label 0 (omega arith))
            ∙ twice (has eqb R j) ∙ sym (ap (λ b. cond (b || has eqb R j) label (get_or f.marks j 0)) u)
        go j false u =
            ap (λ v. cond (has eqb R j) label v) (get_or-set_other f.marks x j label 0 (eqb-false j x u))
            ∙ sym (ap (λ b. cond (b || has eqb R j) label (get_or f.marks j 0)) u)

    -- No row, and nothing changed.
    pushed-nothing : (f : Front) → Pushed label n f [] f
    pushed-nothing f =
        record { end = sym (add-zero f.end); queued = sym (append-nil (take f.end f.queue)); behind = refl; marked = λ j. refl; beyond = refl; marks_kept = refl; queue_kept = refl }

    -- After rows that come once are pushed, the unmarked ones are queued and marked.
    pub pushed-all : (l : List ℕ) (f : Front) → Once l → ((j : ℕ) → Mem j l → j < n) → n ≤ length f.marks → f.end + length (fresh f l) ≤ length f.queue → Pushed label n f (fresh f l) (pushed label f l)
    unfolding pushed
    pushed-all [] f o u m s = pushed-nothing f
    pushed-all (x ∷ l) f o u m s =
        go (is_open f.marks x) s
        (λ h. pushed-all l (onto f x) (once-tail o) (λ j k. u j (tail k)) (omega (arith, length-set f.marks x label)) h)
        (λ h. pushed-all l f (once-tail o) (λ j k. u j (tail k)) m h)
      where
        same-fresh : fresh (onto f x) l ≡ fresh f l
        same-fresh =
            keep-ext (is_open (set f.marks x label)) (is_open f.marks) l
            (λ j k. ap (λ v. eqb v 0) (get_or-set_other f.marks x j label 0 (λ e. once-head o (mem-cast (sym e) k))))

        go : (b : Bool) → f.end + length (cond b (x ∷ fresh f l) (fresh f l)) ≤ length f.queue
            → (suc f.end + length (fresh (onto f x) l) ≤ length (set f.queue f.end x) → Pushed label n (onto f x) (fresh (onto f x) l) (pushed label (onto f x) l))
            → (f.end + length (fresh f l) ≤ length f.queue → Pushed label n f (fresh f l) (pushed label f l))
            → Pushed label n f (cond b (x ∷ fresh f l) (fresh f l)) (pushed label (cond b (onto f x) f) l)
        go true h p q =
            over f x (fresh f l) (pushed label (onto f x) l) (u x (head refl)) m (omega arith)
            (subst (λ R. Pushed label n (onto f x) R (pushed label (onto f x) l)) same-fresh (p (omega (arith, length-set f.queue f.end x, ap length same-fresh))))
        go false h p q = q h
