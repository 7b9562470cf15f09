-- Tests joined by "and", by "or" and by "one of two, and not both", taken apart and put together. Assumes nothing.
use Rattle.std.specs.Prelude.{◌≡◌, refl, ◌⊎◌, Bool, true, false, not, ◌&&◌, ◌||◌, T}
use Rattle.std.proofs.Common.{ap, ap₂, sym, subst, ◌∙◌, inl, inr, true≢false}
use Rattle.std.proofs.Math.Bool.{not-not}
use Rattle.std.specs.Bool.{beq}
use Rattle.std.proofs.lemmas.Bool.{false≢true}

-- What passes a test, the test says
pub true_of : (b : Bool) → T b → b ≡ true
true_of true t = refl
true_of false t = absurd t

-- and the other way round
pub holds : {b : Bool} → b ≡ true → T b
holds e = subst T (sym e) tt

-- Where both tests pass, each does
pub both : (a b : Bool) → (a && b) ≡ true → (a ≡ true) × (b ≡ true)
both true b e = (refl, e)
both false b e = absurd (false≢true e)

pub both_hold : (a b : Bool) → T (a && b) → T a × T b
both_hold true b t = (tt, t)
both_hold false b t = absurd t

-- Where they do not both pass, one of them does not
pub one_fails : (a b : Bool) → (a && b) ≡ false → (a ≡ false) ⊎ (b ≡ false)
one_fails true b e = inr e
one_fails false b e = inl refl

-- and where one does not, they do not both pass
pub fails_left : {a : Bool} (b : Bool) → a ≡ false → (a && b) ≡ false
fails_left b e = ap (λ (t : Bool). t && b) e

pub fails_right : (a : Bool) {b : Bool} → b ≡ false → (a && b) ≡ false
fails_right true e = e
fails_right false e = refl

-- Where one of two passes, it is the first or the second
pub either : (a b : Bool) → (a || b) ≡ true → (a ≡ true) ⊎ (b ≡ true)
either true b e = inl refl
either false b e = inr e

-- and where the first or the second does, one of two passes
pub either_left : {a : Bool} (b : Bool) → a ≡ true → (a || b) ≡ true
either_left b p = ap (λ (t : Bool). t || b) p

pub either_right : (a : Bool) {b : Bool} → b ≡ true → (a || b) ≡ true
either_right true q = refl
either_right false q = q

-- Where none of two passes, neither does
pub neither : (a b : Bool) → (a || b) ≡ false → (a ≡ false) × (b ≡ false)
neither true b e = absurd (true≢false e)
neither false b e = (refl, e)

-- and where neither does, none of two passes
pub none_of : {a b : Bool} → a ≡ false → b ≡ false → (a || b) ≡ false
none_of {a} {b} p q = ap₂ ◌||◌ p q

-- Two tests that pass together are the same
pub same_truth : {a b : Bool} → (a ≡ true → b ≡ true) → (b ≡ true → a ≡ true) → a ≡ b
same_truth {a} {b} there back = at a b there back
  where
    at : (a b : Bool) → (a ≡ true → b ≡ true) → (b ≡ true → a ≡ true) → a ≡ b
    at true b there back = sym (there refl)
    at false true there back = back refl
    at false false there back = refl

-- and so are two that fail together
pub same_failure : {a b : Bool} → (a ≡ false → b ≡ false) → (b ≡ false → a ≡ false) → a ≡ b
same_failure {a} {b} there back = at a b there back
  where
    at : (a b : Bool) → (a ≡ false → b ≡ false) → (b ≡ false → a ≡ false) → a ≡ b
    at false b there back = sym (there refl)
    at true false there back = back refl
    at true true there back = refl

-- One of two, and not both
abbrev pub differ : Bool → Bool → Bool
differ true b = not b
differ false b = b

-- Two tests that are not equal differ
pub unlike : (a b : Bool) → not (beq a b) ≡ differ a b
unlike true true = refl
unlike true false = refl
unlike false true = refl
unlike false false = refl

-- A test does not differ from itself
pub differ_self : (a : Bool) → differ a a ≡ false
differ_self true = refl
differ_self false = refl

-- Nothing differs from a test that never passes but what passes
pub differ_false : (a : Bool) → differ a false ≡ a
differ_false true = refl
differ_false false = refl

-- Tests that do not differ are the same
pub differ_none : (a b : Bool) → differ a b ≡ false → a ≡ b
differ_none true b e = ap not (sym e) ∙ not-not b
differ_none false b e = sym e

-- The order of two, and of three, does not matter
pub differ_comm : (a b : Bool) → differ a b ≡ differ b a
differ_comm true true = refl
differ_comm true false = refl
differ_comm false true = refl
differ_comm false false = refl

not_differ : (a b : Bool) → not (differ a b) ≡ differ (not a) b
not_differ true b = not-not b
not_differ false b = refl

pub differ_assoc : (a b c : Bool) → differ (differ a b) c ≡ differ a (differ b c)
differ_assoc true b c = sym (not_differ b c)
differ_assoc false b c = refl

differ_left : (a b c : Bool) → differ a (differ b c) ≡ differ b (differ a c)
differ_left a b c = sym (differ_assoc a b c) ∙ ap (λ (t : Bool). differ t c) (differ_comm a b) ∙ differ_assoc b a c

-- Of four, the middle two may change places
pub exchange : (a b c d : Bool) → differ (differ a b) (differ c d) ≡ differ (differ a c) (differ b d)
exchange a b c d = differ_assoc a b (differ c d) ∙ ap (differ a) (differ_left b c d) ∙ sym (differ_assoc a c (differ b d))

-- What differs from a middle on both ways differs end to end
pub chain : (a b c : Bool) → differ (differ a b) (differ b c) ≡ differ a c
chain a b c =
    ap (differ (differ a b)) (differ_comm b c) ∙ exchange a b c b ∙ ap (differ (differ a c)) (differ_self b) ∙ differ_false (differ a c)
