-- The corners of a boundary from the caller's numbers, and the laws by which a loop takes them one by one. Assumes nothing.
use Rattle.std.specs.Prelude.{ℕ, zero, suc, ◌+◌, ◌*◌, ◌/◌, ◌<◌, ◌≡◌, refl, List, [], ◌∷◌, length, get_or, drop}
use Rattle.std.proofs.Common.{add-zero, arith, ap, ap₂, ◌∙◌, sym, get_or-drop}
use Rattle.ground.specs.declared.Point.{Point}
use Rattle.ground.specs.Levels.{lat, lon}

-- Latitude, longitude alternate; a last number without a partner makes no corner
unfoldable pub corners_of : List ℕ → List Point
corners_of [] = []
corners_of (a ∷ []) = []
corners_of (a ∷ o ∷ rest) = record { lat = lat a; lon = lon o } ∷ corners_of rest

-- The corner at a place of the list
abbrev pub corner_at : List ℕ → ℕ → Point
corner_at numbers i = record { lat = lat (get_or numbers (2 * i) 0); lon = lon (get_or numbers (2 * i + 1) 0) }

-- There are half as many corners as numbers
pub corners_length : (numbers : List ℕ) → length (corners_of numbers) ≡ length numbers / 2
unfolding corners_of
corners_length [] = refl
corners_length (a ∷ []) = refl
corners_length (a ∷ o ∷ rest) = ap suc (corners_length rest) ∙ omega arith

-- Fewer than two numbers make none
pub no_corners : (numbers : List ℕ) → length numbers / 2 ≡ 0 → corners_of numbers ≡ []
unfolding corners_of
no_corners [] e = refl
no_corners (a ∷ []) e = refl
no_corners (a ∷ o ∷ rest) e = let none : ⊥ = omega arith in absurd none

-- The first of the corners from a place on is the one at that place
pub corners_from : (numbers : List ℕ) (i : ℕ) → i < length numbers / 2
    → drop i (corners_of numbers) ≡ corner_at numbers i ∷ drop (suc i) (corners_of numbers)
unfolding corners_of
corners_from [] i h = let none : ⊥ = omega arith in absurd none
corners_from (a ∷ []) i h = let none : ⊥ = omega arith in absurd none
corners_from (a ∷ o ∷ rest) zero h = refl
corners_from (a ∷ o ∷ rest) (suc i) h =
    corners_from rest i (omega arith)
    ∙ ap₂ (λ (y x : ℕ). record { lat = lat y; lon = lon x } ∷ drop (suc i) (corners_of rest)) (later (2 * suc i) (2 * i) (omega arith))
    (later (2 * suc i + 1) (2 * i + 1) (omega arith))
  where
    later : (m n : ℕ) → m ≡ suc (suc n) → get_or rest n 0 ≡ get_or (a ∷ o ∷ rest) m 0
    later m n e = sym (ap (λ (k : ℕ). get_or (a ∷ o ∷ rest) k 0) e)

-- The corner at a place is the list's element there
pub corner_get : (numbers : List ℕ) (i : ℕ) (d : Point) → i < length numbers / 2 → get_or (corners_of numbers) i d ≡ corner_at numbers i
corner_get numbers i d h =
    ap (λ (k : ℕ). get_or (corners_of numbers) k d) (sym (add-zero i))
    ∙ sym (get_or-drop i (corners_of numbers) 0 d)
    ∙ ap (λ (l : List Point). get_or l 0 d) (corners_from numbers i h)
