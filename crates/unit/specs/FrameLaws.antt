-- The laws of the frame: its end around a cell and around none, and that it makes coding whole. Where one of the first checks refuses,
-- coding says what it says and leaves the room; else coding is its end around the chosen cell. Assumes nothing.
use Rattle.std.specs.Prelude.{ℕ, ◌-◌, ◌*◌, ◌≤◌, ◌≡◌, Bool, cond, List, ◌++◌, ◌⊎◌, length, take, replicate, drop, Option, Some, None, Result, Ok, Err}
use Rattle.std.proofs.Math.Nat.{sub-zero}
use Rattle.std.proofs.Common.{arith, ap₂, ◌∙◌, inl, inr, length-drop, length-append}
use Rattle.std.proofs.Math.Path.{refl, ap, sym, subst}
use Rattle.std.proofs.Math.Bool.{true, false}
use Rattle.std.proofs.Math.Dec.{eqb}
use Rattle.std.proofs.lemmas.List.{length-replicate}
use borrow.Author.Tests.{eq-eqb, ne_eqb, eqb-true, eqb-false}
use Rattle.replies.specs.Replies.{Said, Check, run, Outcome, outcome}
use Rattle.ground.specs.declared.Rectangle.{Rectangle}
use Rattle.ground.specs.declared.Cell.{Cell}
use Rattle.ground.specs.Cells.{is_cell}
use Rattle.ground.proofs.CellsLaws.{is_cell_lem}
use Rattle.code.specs.declared.Fields.{Fields}
use Rattle.code.specs.Code.{writing, code_of}
use Rattle.code.specs.WritingLaws.{code_twenty, good_writing}
use Rattle.corners.specs.Corners.{corners_of}
use Rattle.boundary.specs.Listed.{edges_in, boundary_of, listed_count, listed_edges}
use Rattle.boundary.specs.ListedLaws.{have_room_lem, listed_fits, listed_boundary}
use Rattle.chosen.specs.Chosen.{choose, Over}
use Rattle.unit.specs.declared.Kind.{Kind}
use Rattle.unit.specs.declared.Refusal.{Refusal}
use Rattle.unit.specs.declared.Refusal.TheVariants as refusal
use Rattle.unit.specs.Extents.{extremes_of}
use Rattle.unit.specs.ExtentsLaws.{over_range}
use Rattle.unit.specs.Unit.{fields_of, cell_check, code_at, chosen_cell, code_checks, coding}
use Rattle.unit.specs.CheckLaws.{Entered, entered, first_refuses, first_accepts}
use Rattle.unit.specs.Cover.{fields_good, chosen_inside, passing}
use Rattle.unit.specs.Frame.{says, leaves, ending, first_checks, tells, admitting, finishing, Searched}

-- No refusal has number 0
pub refuses : (e : Refusal) → (says (Err e)).number ≡ 0 → ⊥
refuses refusal.Output k = omega arith
refuses refusal.Pairs k = omega arith
refuses refusal.Corners k = omega arith
refuses (refusal.Range corner) k = omega arith
refuses refusal.Extent k = omega arith
refuses (refusal.Crossed corner) k = omega arith
refuses refusal.Number k = omega arith
refuses refusal.NoCell k = omega arith

-- Writing that says 0 ends in acceptance, and else in 7; the room is as writing left it
module _ (o : Outcome) {said : Said} {room : List ℕ} (written : record { said = said; room = room } ≡ o) where
  pub ends : said.number ≡ 0 → leaves (Ok tt) room ≡ ending o
  ends k = rw (sym written, eq-eqb said.number 0 k)

  pub ends_not : (said.number ≡ 0 → ⊥) → leaves (Err refusal.NoCell) room ≡ ending o
  ends_not k = rw (sym written, ne_eqb said.number 0 k)

-- The end around a cell is writing from its fields, and around what is no cell 7
pub finish_cell : (room : List ℕ) (r : Rectangle) (number : ℕ) (c : Cell) → is_cell c ≡ true
    → ending (writing room (fields_of r number c)) ≡ finishing room r number (Some c)
unfolding finishing
finish_cell room r number c e = rw e

pub finish_none : (room : List ℕ) (r : Rectangle) (number : ℕ) (c : Cell) → is_cell c ≡ false
    → leaves (Err refusal.NoCell) room ≡ finishing room r number (Some c)
unfolding finishing
finish_none room r number c e = rw e

pub finish_nowhere : (room : List ℕ) (r : Rectangle) (number : ℕ) → leaves (Err refusal.NoCell) room ≡ finishing room r number None
unfolding finishing
finish_nowhere room r number = refl

-- Coding leaves no more bytes in a room that has twenty
pub coding_fits : (room numbers : List ℕ) (kind : Kind) (number : ℕ) → 20 ≤ length room
    → length (coding room numbers kind number).room ≤ length room
unfolding coding
coding_fits room numbers kind number h =
    at (eqb (run (code_checks (length room) numbers kind number)).number 0) (chosen_cell (corners_of numbers))
  where
    at : (b : Bool) (c : Option Cell) → length (cond b (code_at (extremes_of (corners_of numbers)) number c ++ drop 20 room) room) ≤ length room
    at false c = omega arith
    at true None = omega (arith, length-drop 20 room)
    at true (Some c) =
        let f : Fields = fields_of (extremes_of (corners_of numbers)) number c in
        omega (arith, length-append (code_of f) (drop 20 room), length-drop 20 room, code_twenty f)

-- The rooms that a road lends: for the edges of 1,024 corners, and for the places where they start
abbrev pub edge_room : List ℕ
edge_room = replicate 4096 0

abbrev pub place_room : List ℕ
place_room = replicate 1024 0

module _ (numbers : List ℕ) {count : ℕ} (counted : count ≡ listed_count numbers edge_room place_room) where
  -- What is listed fits in them
  pub road_fits : 4 * count ≤ 4096
  road_fits = omega (arith, listed_fits numbers edge_room place_room, length-replicate {A = ℕ} 4096 0)

  -- and is the boundary
  pub road_listed : {r : Rectangle} → Searched numbers r → {listed : List ℕ} → listed ≡ listed_edges numbers edge_room place_room
      → edges_in (take (4 * count - 0) listed) ≡ boundary_of numbers
  road_listed s e =
      let edges_long : length edge_room ≡ 4096 = length-replicate {A = ℕ} 4096 0 in
      let places_long : length place_room ≡ 1024 = length-replicate {A = ℕ} 1024 0 in
      ap₂ (λ (n : ℕ) (ns : List ℕ). edges_in (take n ns)) (ap (λ (n : ℕ). 4 * n - 0) counted ∙ sub-zero (4 * listed_count numbers edge_room place_room)) e
      ∙ listed_boundary numbers edge_room place_room (have_room_lem numbers edge_room place_room (omega (arith, s.most)) (omega (arith, s.most)))

-- What the first checks leave to a road, from what they say
module _ (room : ℕ) (numbers : List ℕ) (kind : Kind) (number : ℕ) where
  abbrev said_first : Said
  said_first = run (first_checks room numbers kind number)

  module _ {said : Said} (first : said ≡ said_first) where
    pub admitting_refuses : (said.number ≡ 0 → ⊥) → inl said ≡ admitting room numbers kind number
    unfolding admitting
    admitting_refuses h = rw (sym first, ne_eqb said.number 0 h)

    pub admitting_accepts : said.number ≡ 0 → {r : Rectangle} → r ≡ extremes_of (corners_of numbers) → inr r ≡ admitting room numbers kind number
    unfolding admitting
    admitting_accepts e own = rw (own, sym first, eq-eqb said.number 0 e)

  -- and back: what they say, where one of them refuses, or the unit's own extremes, where none does
  abbrev Admitted : Said ⊎ Rectangle → Type 0
  Admitted (inl said) = (said ≡ said_first) × (said_first.number ≡ 0 → ⊥)
  Admitted (inr r) = (r ≡ extremes_of (corners_of numbers)) × (said_first.number ≡ 0)

  admitted : (l : Said ⊎ Rectangle) → l ≡ admitting room numbers kind number → Admitted l
  unfolding admitting
  admitted l told = subst Admitted (sym told) (at (eqb said_first.number 0) refl)
    where
      at : (b : Bool) → eqb said_first.number 0 ≡ b → Admitted (cond b (inr (extremes_of (corners_of numbers))) (inl said_first))
      at true k = (refl, eqb-true said_first.number 0 k)
      at false k = (refl, eqb-false said_first.number 0 k)

  module _ {a : Result Rectangle Refusal} (told : tells a ≡ admitting room numbers kind number) where
    admitted_refused : {why : Refusal} → a ≡ Err why → Admitted (inl (says (Err why)))
    admitted_refused {why} e = admitted (inl (says (Err why))) (ap tells (sym e) ∙ told)

    admitted_over : {r : Rectangle} → a ≡ Ok r → Admitted (inr r)
    admitted_over {r} e = admitted (inr r) (ap tells (sym e) ∙ told)

    -- A road that they accept has what its search takes for granted
    pub road_searches : {r : Rectangle} → a ≡ Ok r → Searched numbers r
    road_searches e =
        let h = admitted_over e in
        let entry = entered room numbers kind number h.1 in
        let over = over_range (corners_of numbers) entry.ground.range in
        record { most = entry.shape.most; over = subst (λ (x : Rectangle). Over x (boundary_of numbers)) (sym h.0) over }

module _ (room numbers : List ℕ) (kind : Kind) (number : ℕ) where
  -- The first checks
  abbrev firsts : List Check
  firsts = first_checks (length room) numbers kind number

  -- Where one of them refuses, coding says what it says and leaves the room
  pub framed_refused : ((run firsts).number ≡ 0 → ⊥) → coding room numbers kind number ≡ record { said = run firsts; room = room }
  unfolding coding
  framed_refused h = rw (first_refuses (length room) numbers kind number h, ne_eqb (run firsts).number 0 h)

  -- Else coding is its end around the chosen cell
  pub framed : (run firsts).number ≡ 0
      → coding room numbers kind number ≡ finishing room (extremes_of (corners_of numbers)) number (chosen_cell (corners_of numbers))
  unfolding coding
  framed e =
      let choice : Option Cell = chosen_cell (corners_of numbers) in
      ap (λ (s : Said). outcome s (code_at (extremes_of (corners_of numbers)) number choice) room) (first_accepts (length room) numbers kind number e)
      ∙ at choice refl (entered (length room) numbers kind number e)
    where
      at : (choice : Option Cell) → chosen_cell (corners_of numbers) ≡ choice → Entered (length room) numbers number
          → outcome (run (cell_check choice)) (code_at (extremes_of (corners_of numbers)) number choice) room
          ≡ finishing room (extremes_of (corners_of numbers)) number choice
      at (Some c) chosen h =
          let r : Rectangle = extremes_of (corners_of numbers) in
          ap ending (sym (good_writing room (fields_of r number c) h.long (fields_good (passing h chosen))))
          ∙ finish_cell room r number c (is_cell_lem c (chosen_inside h.ground chosen).0)
      at None chosen h = finish_nowhere room (extremes_of (corners_of numbers)) number

  module _ {a : Result Rectangle Refusal} (told : tells a ≡ admitting (length room) numbers kind number) where
    -- So a road that they refuse says what they say and leaves the room
    pub road_refused : {why : Refusal} → a ≡ Err why → leaves (Err why) room ≡ coding room numbers kind number
    road_refused e =
        let h = admitted_refused (length room) numbers kind number told e in
        ap (λ (s : Said). record { said = s; room = room }) h.0 ∙ sym (framed_refused h.1)

    -- and one that they accept codes by ending around the chosen cell
    pub road_ends : {r : Rectangle} → a ≡ Ok r → {o : Outcome} {choice : Option Cell} → choice ≡ choose r (boundary_of numbers)
        → o ≡ finishing room r number choice → o ≡ coding room numbers kind number
    road_ends e chosen ended =
        let h = admitted_over (length room) numbers kind number told e in
        let found = chosen ∙ ap (λ (x : Rectangle). choose x (boundary_of numbers)) h.0 in
        ended ∙ ap₂ (λ (x : Rectangle) (y : Option Cell). finishing room x number y) h.0 found ∙ sym (framed h.1)
