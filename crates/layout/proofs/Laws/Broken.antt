-- The first broken point, by the points that hold.
use Rattle.std.specs.Prelude.{ℕ, ◌≡◌, refl, Bool, true, false, ◌&&◌, List, [], ◌∷◌, eqb}
use Rattle.std.proofs.Math.Path.{sym}
use Rattle.layout.specs.Points.{point1, point2, point3, point4, point5, point6, point7, point8, point9, first_of, first_broken, consistent_words}

-- The first of nine tests that fails.
unfoldable first : (z a b c d e f g h : Bool) → ℕ
first z a b c d e f g h = first_of ((9, z) ∷ (1, a) ∷ (2, b) ∷ (3, c) ∷ (4, d) ∷ (5, e) ∷ (6, f) ∷ (7, g) ∷ (8, h) ∷ [])

none_first : (z a b c d e f g h : Bool) → eqb (first z a b c d e f g h) 0 ≡ (z && (a && (b && (c && (d && (e && (f && (g && h))))))))
unfolding first
none_first false a b c d e f g h = refl
none_first true false b c d e f g h = refl
none_first true true false c d e f g h = refl
none_first true true true false d e f g h = refl
none_first true true true true false e f g h = refl
none_first true true true true true false f g h = refl
none_first true true true true true true false g h = refl
none_first true true true true true true true false h = refl
none_first true true true true true true true true false = refl
none_first true true true true true true true true true = refl

module _ (w : List ℕ) where
  -- Words are consistent exactly if all points hold.
  pub all-points : consistent_words w ≡ (point9 w && (point1 w && (point2 w && (point3 w && (point4 w && (point5 w && (point6 w && (point7 w && point8 w))))))))
  unfolding first_broken first
  all-points = none_first (point9 w) (point1 w) (point2 w) (point3 w) (point4 w) (point5 w) (point6 w) (point7 w) (point8 w)

  -- The ways out, by the first test that fails.
  pub broken9 : point9 w ≡ false → 9 ≡ first_broken w
  unfolding first_broken first
  broken9 z = sym (λ i. first (z i) (point1 w) (point2 w) (point3 w) (point4 w) (point5 w) (point6 w) (point7 w) (point8 w))

  module _ (z : point9 w ≡ true) where
    pub broken1 : point1 w ≡ false → 1 ≡ first_broken w
    unfolding first_broken first
    broken1 a = sym (λ i. first (z i) (a i) (point2 w) (point3 w) (point4 w) (point5 w) (point6 w) (point7 w) (point8 w))

    module _ (a : point1 w ≡ true) where
      pub broken2 : point2 w ≡ false → 2 ≡ first_broken w
      unfolding first_broken first
      broken2 b = sym (λ i. first (z i) (a i) (b i) (point3 w) (point4 w) (point5 w) (point6 w) (point7 w) (point8 w))

      module _ (b : point2 w ≡ true) where
        pub broken3 : point3 w ≡ false → 3 ≡ first_broken w
        unfolding first_broken first
        broken3 c = sym (λ i. first (z i) (a i) (b i) (c i) (point4 w) (point5 w) (point6 w) (point7 w) (point8 w))

        module _ (c : point3 w ≡ true) where
          pub broken4 : point4 w ≡ false → 4 ≡ first_broken w
          unfolding first_broken first
          broken4 d = sym (λ i. first (z i) (a i) (b i) (c i) (d i) (point5 w) (point6 w) (point7 w) (point8 w))

          module _ (d : point4 w ≡ true) where
            pub broken5 : point5 w ≡ false → 5 ≡ first_broken w
            unfolding first_broken first
            broken5 e = sym (λ i. first (z i) (a i) (b i) (c i) (d i) (e i) (point6 w) (point7 w) (point8 w))

            module _ (e : point5 w ≡ true) where
              pub broken6 : point6 w ≡ false → 6 ≡ first_broken w
              unfolding first_broken first
              broken6 f = sym (λ i. first (z i) (a i) (b i) (c i) (d i) (e i) (f i) (point7 w) (point8 w))

              module _ (f : point6 w ≡ true) where
                pub broken7 : point7 w ≡ false → 7 ≡ first_broken w
                unfolding first_broken first
                broken7 g = sym (λ i. first (z i) (a i) (b i) (c i) (d i) (e i) (f i) (g i) (point8 w))

                module _ (g : point7 w ≡ true) where
                  pub broken8 : point8 w ≡ false → 8 ≡ first_broken w
                  unfolding first_broken first
                  broken8 h = sym (λ i. first (z i) (a i) (b i) (c i) (d i) (e i) (f i) (g i) (h i))

                  pub unbroken : point8 w ≡ true → 0 ≡ first_broken w
                  unfolding first_broken first
                  unbroken h = sym (λ i. first (z i) (a i) (b i) (c i) (d i) (e i) (f i) (g i) (h i))
