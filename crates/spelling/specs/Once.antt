-- No second answer satisfies the promise of `numbers_in`. Assumes nothing.
use Rattle.std.specs.Prelude.{ℕ, ◌≡◌, refl, [], ◌∷◌, Result, Ok, Err}
use Rattle.facts.specs.Once.{said_once, sought}
use Rattle.spelling.specs.declared.Misspelled.{Misspelled}
use Rattle.spelling.specs.declared.Misspelled.TheVariants.{Length, Letter}
use Rattle.spelling.specs.Spelling.{Numbers, spells}

abbrev spelled_by : Numbers → Result (ℕ × ℕ) Misspelled
spelled_by n =
    sought (λ a. (spells a).said.number) n.said.number (Ok (n.location, n.rest))
    (Err Length ∷ Err (Letter n.said.place) ∷ [])

spelled_found : (a : Result (ℕ × ℕ) Misspelled) → spelled_by (spells a) ≡ a
spelled_found (Ok (location, rest)) = refl
spelled_found (Err Length) = refl
spelled_found (Err (Letter place)) = refl

pub numbers_once : (n : Numbers) (a b : Result (ℕ × ℕ) Misspelled) → spells a ≡ n → spells b ≡ n → a ≡ b
numbers_once n a b = said_once spells spelled_by spelled_found a b
