-- The list operations that the rules are written with. Tests are Bools that compute; a table is a list of pairs, key first,
-- strictly ascending by key.
use Rattle.std.specs.Prelude.{ℕ, zero, suc, Bool, true, false, cond, ◌&&◌, ◌||◌, not, List, [], ◌∷◌, ◌++◌}
use Rattle.std.proofs.Math.Option.{Option, none, some}

module _ {A : Type 0} where
  -- The members that pass the test, in order.
  abbrev pub keep : (A → Bool) → List A → List A
  keep p [] = []
  keep p (x ∷ xs) = cond (p x) (x ∷ keep p xs) (keep p xs)

  -- Whether some member passes the test.
  abbrev pub any : (A → Bool) → List A → Bool
  any p [] = false
  any p (x ∷ xs) = p x || any p xs

  -- Whether every member passes the test.
  abbrev pub all : (A → Bool) → List A → Bool
  all p [] = true
  all p (x ∷ xs) = p x && all p xs

  -- Whether a is a member.
  abbrev pub has : (A → A → Bool) → List A → A → Bool
  has eq l a = any (eq a) l

  -- The list without a.
  abbrev pub without : (A → A → Bool) → A → List A → List A
  without eq a = keep (λ b. not (eq a b))

  -- Whether two lists have the same members in the same order.
  abbrev pub equal : (A → A → Bool) → List A → List A → Bool
  equal eq [] [] = true
  equal eq [] (y ∷ ys) = false
  equal eq (x ∷ xs) [] = false
  equal eq (x ∷ xs) (y ∷ ys) = eq x y && equal eq xs ys

  -- Whether no member comes twice.
  abbrev pub distinct : (A → A → Bool) → List A → Bool
  distinct eq [] = true
  distinct eq (x ∷ xs) = not (has eq xs x) && distinct eq xs

  -- The members up to the first that fails the test.
  abbrev pub whilst : (A → Bool) → List A → List A
  whilst p [] = []
  whilst p (x ∷ xs) = cond (p x) (x ∷ whilst p xs) []

  -- A strictly ascending list with one member more, at its place; unchanged if it was there.
  abbrev pub add : (A → A → Bool) → A → List A → List A
  add lt a [] = a ∷ []
  add lt a (x ∷ xs) = cond (lt a x) (a ∷ x ∷ xs) (cond (lt x a) (x ∷ add lt a xs) (x ∷ xs))

  -- The members of a list, each once, strictly ascending.
  abbrev pub ascending : (A → A → Bool) → List A → List A
  ascending lt [] = []
  ascending lt (x ∷ xs) = add lt x (ascending lt xs)

  -- Whether a list is strictly ascending.
  abbrev pub is_ascending : (A → A → Bool) → List A → Bool
  is_ascending lt [] = true
  is_ascending lt (x ∷ xs) = all (lt x) xs && is_ascending lt xs

  -- A member put before the first that is not less than it.
  abbrev pub place : (A → A → Bool) → A → List A → List A
  place lt a [] = a ∷ []
  place lt a (x ∷ xs) = cond (lt x a) (x ∷ place lt a xs) (a ∷ x ∷ xs)

  -- A list sorted, equal members as they stood.
  abbrev pub sort : (A → A → Bool) → List A → List A
  sort lt [] = []
  sort lt (x ∷ xs) = place lt x (sort lt xs)

module _ {A B : Type 0} where
  -- What f gives for each member.
  abbrev pub each : (A → B) → List A → List B
  each f [] = []
  each f (x ∷ xs) = f x ∷ each f xs

  -- What f gives for each member, one after the other.
  abbrev pub gather : (A → List B) → List A → List B
  gather f [] = []
  gather f (x ∷ xs) = f x ++ gather f xs

  -- The members taken one after the other, from the left.
  abbrev pub run : (B → A → B) → B → List A → B
  run f b [] = b
  run f b (x ∷ xs) = run f (f b x) xs

module _ {K W : Type 0} where
  -- The keys of a table.
  abbrev pub keys : List (K × W) → List K
  keys = each (λ (p : K × W). p.0)

  -- The values of a table.
  abbrev pub values : List (K × W) → List W
  values = each (λ (p : K × W). p.1)

  -- What stands under a key.
  abbrev pub get : (K → K → Bool) → List (K × W) → K → Option W
  get eq [] k = none
  get eq (p ∷ ps) k = cond (eq k p.0) (some p.1) (get eq ps k)

  -- The table with v under k, in place of what stood there.
  abbrev pub put : (K → K → Bool) → K → W → List (K × W) → List (K × W)
  put lt k v [] = (k, v) ∷ []
  put lt k v (p ∷ ps) = cond (lt k p.0) ((k, v) ∷ p ∷ ps) (cond (lt p.0 k) (p ∷ put lt k v ps) ((k, v) ∷ ps))

  -- The rows whose key passes the test.
  abbrev pub only : (K → Bool) → List (K × W) → List (K × W)
  only t = keep (λ (p : K × W). t p.0)

  -- The table without the key k.
  abbrev pub drop_key : (K → K → Bool) → K → List (K × W) → List (K × W)
  drop_key eq k = only (λ a. not (eq k a))

  -- The table with each value changed by a rule of its key and itself.
  abbrev pub change : (K → W → W) → List (K × W) → List (K × W)
  change f = each (λ (p : K × W). (p.0, f p.0 p.1))

-- The numbers k, k + 1, and so on, n of them.
abbrev pub count : ℕ → ℕ → List ℕ
count k zero = []
count k (suc n) = k ∷ count (suc k) n
