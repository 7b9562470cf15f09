-- No second answer (document 01, "What a contract has to say"): two answers that meet one promise are the same. A promise is an equation,
-- of the answer itself or of what it says; in the second case each answer is found back from what it says. Assumes nothing.
use Rattle.std.specs.Prelude.{ℕ, ◌≡◌, cond, List, [], ◌∷◌, eqb}
use Rattle.std.proofs.Common.{ap, ◌∙◌, sym}

-- Two answers that equal one thing are the same
pub once : {A : Type 0} {r s a : A} → r ≡ a → s ≡ a → r ≡ s
once e k = e ∙ sym k

-- Two answers that say one thing are the same, where each is found back from what it says
pub said_once : {A B : Type 0} (says : A → B) (found : B → A) → ((a : A) → found (says a) ≡ a) → {b : B} (r s : A)
    → says r ≡ b → says s ≡ b → r ≡ s
said_once says found back r s e k = sym (back r) ∙ ap found (once e k) ∙ back s

-- How an answer is found: the first of a list that has a number, or the one named
abbrev pub sought : {A : Type 0} → (A → ℕ) → ℕ → A → List A → A
sought number n other [] = other
sought number n other (a ∷ rest) = cond (eqb (number a) n) a (sought number n other rest)
