-- The laws of a text put into a room: element by element, after another text, all of it where it fits. Assumes nothing.
use Rattle.std.specs.Prelude.{ℕ, suc, ◌+◌, ◌-◌, ◌≤◌, ◌<◌, min, ◌≡◌, ◌⊎◌, List, [], ◌∷◌, ◌++◌, length, take, drop, set}
use Rattle.std.proofs.Math.Nat.{zero-min}
use Rattle.std.proofs.Common.{add-one, arith, sym, ap, ◌∙◌, inl, inr, length-set, length-append, take-suc-set, drop-set-lt, take_all}
use Rattle.std.proofs.Math.Seq.{paste, paste-zero, set_out, append_snoc}
use Rattle.std.proofs.lemmas.List.Edits.{take-paste}
use Rattle.facts.specs.Numbers.{either_way}
use Rattle.room.specs.Room.{fitting, put_at, Put}

-- ---- element by element

-- nothing fits at or past a room's end
pub put_none : {A : Type 0} (room : List A) (at : ℕ) (text : List A) → length room ≤ at → put_at room at text ≡ room
unfolding put_at
put_none room at text h =
    let none : min (length text) (length room - at) ≡ 0 = omega arith in
    ap (paste room at text) none ∙ sym (paste-zero room at text)

-- an empty text leaves a room
pub put_nil : {A : Type 0} (room : List A) (at : ℕ) → put_at room at [] ≡ room
unfolding put_at
put_nil room at = ap (paste room at []) (zero-min (length room - at)) ∙ sym (paste-zero room at [])

-- a text is put by its first element and then the rest
pub put_cons : {A : Type 0} (room : List A) (at : ℕ) (a : A) (text : List A) → put_at room at (a ∷ text) ≡ put_at (set room at a) (at + 1) text
unfolding put_at
put_cons {A} room at a text = pick (either_way (length room) at)
  where
    past : length room ≤ at → put_at room at (a ∷ text) ≡ put_at (set room at a) (at + 1) text
    past h =
        put_none room at (a ∷ text) h
        ∙ sym (ap (λ (o : List A). put_at o (at + 1) text) (set_out room at a h) ∙ put_none room (at + 1) text (omega arith))

    within : at < length room → put_at room at (a ∷ text) ≡ put_at (set room at a) (at + 1) text
    within h =
        let later : List A = set room at a in
        let k : ℕ = min (length text) (length room - (at + 1)) in
        let more : min (suc (length text)) (length room - at) ≡ suc k = omega arith in
        let next : at + suc k ≡ at + 1 + k = omega arith in
        let front : take (at + 1) later ≡ take at room ++ (a ∷ []) = ap (λ (n : ℕ). take n later) (add-one at) ∙ take-suc-set room at a h in
        ap (paste room at (a ∷ text)) more
        ∙ ap (λ (n : ℕ). take at room ++ (a ∷ take k text) ++ drop n room) next
        ∙ sym
        (ap (λ (n : ℕ). paste later (at + 1) text (min (length text) (n - (at + 1)))) (length-set room at a)
        ∙ ap (λ (r : List A). r ++ take k text ++ drop (at + 1 + k) later) front
        ∙ ap (λ (r : List A). r ++ drop (at + 1 + k) later) (append_snoc (take at room) a (take k text))
        ∙ ap (λ (r : List A). take at room ++ (a ∷ take k text) ++ r) (drop-set-lt (at + 1 + k) room at a (omega arith)))

    pick : (length room ≤ at) ⊎ (at < length room) → put_at room at (a ∷ text) ≡ put_at (set room at a) (at + 1) text
    pick (inl h) = past h
    pick (inr h) = within h

-- a room keeps its length
pub length_put : {A : Type 0} (room : List A) (at : ℕ) (text : List A) → length (put_at room at text) ≡ length room
length_put room at [] = ap length (put_nil room at)
length_put room at (a ∷ text) = ap length (put_cons room at a text) ∙ length_put (set room at a) (at + 1) text ∙ length-set room at a

-- ---- a text after a text

-- a text t after a text s is put as both in one
abbrev Joins : List ℕ → ℕ → List ℕ → List ℕ → Type 0
Joins room at s t = put_at (put_at room at s) (at + fitting room at s) t ≡ put_at room at (s ++ t)

put_append : (s room : List ℕ) (at : ℕ) (t : List ℕ) → Joins room at s t
put_append [] room at t =
    let none : at + min 0 (length room - at) ≡ at = omega arith in
    ap (λ (n : ℕ). put_at (put_at room at []) n t) none ∙ ap (λ (o : List ℕ). put_at o at t) (put_nil room at)
put_append (a ∷ s) room at t = pick (either_way (length room) at) (put_append s (set room at a) (at + 1) t)
  where
    pick : (length room ≤ at) ⊎ (at < length room) → Joins (set room at a) (at + 1) s t → Joins room at (a ∷ s) t
    pick (inl h) rest =
        let none : at + min (suc (length s)) (length room - at) ≡ at = omega arith in
        ap (λ (n : ℕ). put_at (put_at room at (a ∷ s)) n t) none
        ∙ ap (λ (o : List ℕ). put_at o at t) (put_none room at (a ∷ s) h)
        ∙ put_none room at t h
        ∙ sym (put_none room at (a ∷ s ++ t) h)
    pick (inr h) rest =
        let later : List ℕ = set room at a in
        let next : at + fitting room at (a ∷ s) ≡ at + 1 + fitting later (at + 1) s = omega (arith, length-set room at a) in
        ap (λ (n : ℕ). put_at (put_at room at (a ∷ s)) n t) next
        ∙ ap (λ (o : List ℕ). put_at o (at + 1 + fitting later (at + 1) s) t) (put_cons room at a s)
        ∙ rest
        ∙ sym (put_cons room at a (s ++ t))

-- nothing put
pub put_nothing : (room : List ℕ) (at : ℕ) → Put room at [] at room
put_nothing room at = record { ends = omega arith; holds = sym (put_nil room at) }

module _ {room : List ℕ} {at : ℕ} where
  -- two texts put one after the other are put as one
  pub put_then : {s t : List ℕ} {end last : ℕ} {later final : List ℕ} → Put room at s end later → Put later end t last final → Put room at (s ++ t) last final
  put_then {s} {t} {end} p q =
      let same = ap length p.holds ∙ length_put room at s in
      record {
        ends = omega (arith, p.ends, q.ends, same, length-append s t);
        holds =
            q.holds
            ∙ ap (λ (o : List ℕ). put_at o end t) p.holds
            ∙ ap (λ (n : ℕ). put_at (put_at room at s) n t) p.ends
            ∙ put_append s room at t;
      }

  -- and so are four
  pub put_four : {a b c d : List ℕ} {h i j end : ℕ} {p q r later : List ℕ} → Put room at a h p → Put p h b i q → Put q i c j r → Put r j d end later
      → Put room at (a ++ b ++ c ++ d) end later
  put_four first second third fourth = put_then (put_then (put_then first second) third) fourth

  -- no second position and no second room: what is put says all of both
  pub put_only : {text : List ℕ} {end end' : ℕ} {later later' : List ℕ} → Put room at text end later → Put room at text end' later'
      → (end ≡ end') × (later ≡ later')
  put_only p q = (p.ends ∙ sym q.ends, p.holds ∙ sym q.holds)

  -- the position after a text lies within the room
  pub put_within : {text : List ℕ} {end : ℕ} {later : List ℕ} → Put room at text end later → at ≤ length room → end ≤ length later
  put_within {text} p h = omega (arith, p.ends, ap length p.holds ∙ length_put room at text)

-- ---- a text that fits

-- is all there
pub put_held : {A : Type 0} (room text : List A) → length text ≤ length room → take (length text) (put_at room 0 text) ≡ text
unfolding put_at
put_held room text h =
    let all : min (length text) (length room - 0) ≡ length text = omega arith in
    let none : length text ≡ 0 + length text = omega arith in
    ap (λ (n : ℕ). take (length text) (paste room 0 text n)) all
    ∙ ap (λ (n : ℕ). take n (paste room 0 text (length text))) none
    ∙ take-paste room 0 text (length text) (omega arith) (omega arith)
    ∙ take_all (length text) text (omega arith)

-- the position after it is its length, and what stands before that is the text
pub put_whole : {room text : List ℕ} {end : ℕ} {later : List ℕ} → Put room 0 text end later → length text ≤ length room
    → (end ≡ length text) × (take end later ≡ text)
put_whole {room} {text} {end} {later} p h =
    let len : end ≡ length text = omega (arith, p.ends) in
    (len, ap (λ (n : ℕ). take n later) len ∙ ap (take (length text)) p.holds ∙ put_held room text h)

-- and the room's other bytes stay, where it was put at the start
pub put_first : {A : Type 0} (room text : List A) → length text ≤ length room → put_at room 0 text ≡ text ++ drop (length text) room
unfolding put_at
put_first {A} room text h =
    let all : min (length text) (length room - 0) ≡ length text = omega arith in
    let after : 0 + length text ≡ length text = omega arith in
    ap (paste room 0 text) all
    ∙ ap (λ (n : ℕ). take (length text) text ++ drop n room) after
    ∙ ap (λ (t : List A). t ++ drop (length text) room) (take_all (length text) text (omega arith))
