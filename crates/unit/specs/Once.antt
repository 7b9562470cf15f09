-- No second answer satisfies the promise of the frame: each case of an answer is found back from what it says. Assumes nothing.
use Rattle.std.specs.Prelude.{ℕ, ◌≡◌, refl, cond, List, [], ◌∷◌, ◌⊎◌, eqb, Result, Ok, Err}
use Rattle.std.proofs.Common.{ap, ◌∙◌, sym, inl, inr, ne_eqb}
use Rattle.replies.specs.Replies.{Said, Outcome}
use Rattle.facts.specs.Once.{said_once, sought}
use Rattle.ground.specs.declared.Rectangle.{Rectangle}
use Rattle.unit.specs.declared.Refusal.{Refusal}
use Rattle.unit.specs.declared.Refusal.TheVariants as refusal
use Rattle.unit.specs.Frame.{says, leaves, tells}
use Rattle.unit.specs.FrameLaws.{refuses}

-- The refusal that says this, which is not acceptance
abbrev refusal_by : Said → Refusal
refusal_by s =
    sought (λ e. (says (Err e)).number) s.number refusal.NoCell
    (refusal.Output ∷ refusal.Pairs ∷ refusal.Corners ∷ refusal.Range s.place ∷ refusal.Extent ∷ refusal.Crossed s.place
    ∷ refusal.Number ∷ [])

refusal_back : (e : Refusal) → refusal_by (says (Err e)) ≡ e
refusal_back refusal.Output = refl
refusal_back refusal.Pairs = refl
refusal_back refusal.Corners = refl
refusal_back (refusal.Range corner) = refl
refusal_back refusal.Extent = refl
refusal_back (refusal.Crossed corner) = refl
refusal_back refusal.Number = refl
refusal_back refusal.NoCell = refl

abbrev coded_by : Said → Result (Unit {0}) Refusal
coded_by s = cond (eqb s.number 0) (Ok tt) (Err (refusal_by s))

coded_back : (a : Result (Unit {0}) Refusal) → coded_by (says a) ≡ a
coded_back (Ok _) = refl
coded_back (Err why) = rw (ne_eqb (says (Err why)).number 0 (refuses why)) (ap Err (refusal_back why))

-- Two answers that say the same are the same
pub says_once : (s : Said) (a b : Result (Unit {0}) Refusal) → says a ≡ s → says b ≡ s → a ≡ b
says_once s a b = said_once says coded_by coded_back a b

-- Two answers and rooms that meet the promise of coding are the same
pub coding_once : (o : Outcome) (a b : Result (Unit {0}) Refusal) (room other : List ℕ) → leaves a room ≡ o → leaves b other ≡ o
    → (a ≡ b) × (room ≡ other)
coding_once o a b room other e k =
    (says_once o.said a b (ap (λ (p : Outcome). p.said) e) (ap (λ (p : Outcome). p.said) k), ap (λ (p : Outcome). p.room) (e ∙ sym k))

abbrev admission_by : Said ⊎ Rectangle → Result Rectangle Refusal
admission_by (inl s) = Err (refusal_by s)
admission_by (inr r) = Ok r

admission_back : (c : Result Rectangle Refusal) → admission_by (tells c) ≡ c
admission_back (Err e) = ap Err (refusal_back e)
admission_back (Ok r) = refl

-- Two answers of the first checks that leave the same to a road are the same
pub admission_once : (l : Said ⊎ Rectangle) (a b : Result Rectangle Refusal) → tells a ≡ l → tells b ≡ l → a ≡ b
admission_once l a b = said_once tells admission_by admission_back a b
