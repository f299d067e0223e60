-- Demand 3 over the calls of a table: a key's assembly is what its own pieces lead to, and these are parts of one payload.
use mathlib.Core.Path.{◌≡◌, refl, sym, ap, subst, ◌∙◌}
use mathlib.Core.Logic.{◌↔◌}
use mathlib.Core.Bool.{Bool, true, false, cond}
use Rattle.std.specs.Prelude.{Option, Some, None}
use mathlib.Core.List.{List, [], ◌∷◌, ◌++◌}
use Prim.Native.Nat.{ℕ, ◌≤◌, ◌<◌}
use native.Mathlib.Omega.{arith}
use lib.ListN.{length}
use borrow.Author.Tests.{le-ltb}
use Rattle.pkt.specs.Answers.{Answer, refused, gives, mapped, fitting, says}
use Rattle.pkt.specs.Written.{written}
use Rattle.pkt.proofs.Choice.{pick_yes, pick_no}
use Rattle.ezpkt.specs.declared.ip4.Template.{Template}
use Rattle.assembly.specs.declared.Key.{Key}
use Rattle.assembly.specs.Piece.{Piece}
use Rattle.assembly.specs.declared.Outcome.{Outcome}
use Rattle.assembly.specs.Assembly.{State, outcome, opened, run, complete, held_bytes}
use Rattle.assembly.specs.Cut.{requested}
use Rattle.assembly.specs.Packets.{take_all, Accepted}
use Rattle.assembly.proofs.Delivers as handed
use Rattle.assembly.proofs.Parts.{mem_length}
use Rattle.table.specs.declared.Slot.{Slot}
use Rattle.table.specs.declared.After.{After}
use Rattle.table.specs.Slots.{slot_bytes, slot_map}
use Rattle.table.specs.Table.{table_take, Tables, TakesOut}
use Rattle.table.specs.Mixed.{Keyed, keyed_in, pieces_of, AtMostEight, HandedTo, assembly_of, led_to, Carried}
use Rattle.table.proofs.Carries.{own_pieces, piece_keyed, keyed_piece_lem, carried_by_lem}
use Rattle.table.proofs.Held.{Held}
use Rattle.table.proofs.Mixed.{held_own, ninth, led_is}
use Rattle.table.proofs.Effects.{Went, kept, took, turned, went, out_by, put_out, Outgoing, outgoing}
use Rattle.demands.specs.Assembling.{template_key, BuiltFrom, Cover}
use Rattle.demands.specs.Cutting.{CutBy}
use Rattle.demands.specs.Demand3.{OneHeader}
use Rattle.demands.specs.Tabled.{OwnCut, TableFromOne, TableDemand3}
use Rattle.demands.proofs.Assembling.{asked_carries, built_complete, built_whole, built_sound}
use Rattle.demands.proofs.Completing.{cut_asked}

module _ (t : Template) (p : List ℕ) (one : OneHeader t) (few : length p ≤ slot_bytes) (ls : List (List ℕ)) (s : List Slot) (d m : List ℕ)
    (calls : HandedTo ls s d m) (eight : AtMostEight ls) (cut : OwnCut t p ls) where
  h : Held (λ j. pieces_of j ls) s d m
  h = held_own ls s d m calls eight

  -- an assembly of the key that all the packets are handed to
  alone : State
  alone = take_all slot_bytes slot_map (opened (template_key t) slot_bytes slot_map) ls

  -- takes the pieces that the table's takes
  alone_is : alone ≡ run (opened (template_key t) slot_bytes slot_map) (pieces_of (template_key t) ls)
  unfolding alone
  alone_is =
      handed.taken_is slot_bytes slot_map (template_key t) (omega arith) ls
      ∙ ap (run (opened (template_key t) slot_bytes slot_map)) (sym (own_pieces (template_key t) ls))

  -- each of which was cut from p
  built : (l : List ℕ) (q : Piece) → Accepted slot_bytes (template_key t) ls l q → BuiltFrom t p l
  built l q a =
      let (x, e, key, piece) = piece_keyed (template_key t) l q a.carries in
      let (off, len, c) = cut l x a.handed e key in
      (off, len, cut_asked t p l off len c)

  whole_when : (complete alone ≡ true) ↔ ((0 < length (pieces_of (template_key t) ls)) × Cover t p ls)
  unfolding alone
  whole_when =
      let w = built_complete slot_bytes slot_map (omega arith) (omega arith) t p one few ls built in
      let e = ap length (own_pieces (template_key t) ls) in
      (λ c. let x = w.0 c in (omega (arith, x.0, e), x.1), λ x. w.1 (omega (arith, x.0, e), x.1))

  -- it is the table's
  led_to_lem : (u : State) → assembly_of s d m (template_key t) ≡ Some u → u ≡ alone
  led_to_lem u e = led_is (template_key t) (pieces_of (template_key t) ls) u (sym (h.led (template_key t)) ∙ e) ∙ sym alone_is

  -- ---- handing in one more
  one_more : (l : List ℕ) (off len : ℕ) → CutBy t p l off len → AtMostEight (ls ++ (l ∷ [])) → (a : After Outcome) (d' m' : List ℕ)
      → Tables (table_take s d m l) s d m a d' m' → (x : Outcome) × (says a.answer ≡ gives x)
  one_more l off len c more a d' m' call = go (went s d m l h.sound a d' m' call)
    where
      carried : (x : Keyed) × (keyed_in l ≡ gives x) × (x.key ≡ template_key t) × (x.piece ≡ requested p off len)
      carried = piece_keyed (template_key t) l _ (asked_carries slot_bytes slot_map (omega arith) (omega arith) t p one few l off len (cut_asked t p l off len c))

      go : Went s d m l (says a.answer) a.table d' m' → (x : Outcome) × (says a.answer ≡ gives x)
      go (kept n e o x y z) = let q = carried.1 in let w : ◌≡◌ {A = ℕ} 0 1 = cc in absurd (omega arith)
      go (took x u e o met sound after) = (outcome u, o)
      go (turned x e o n f y z w) = absurd (ninth ls s d m l h x more e n f)

  -- ---- taking out
  module _ (o : List ℕ) (a : After ℕ) (d' m' o' : List ℕ) (call : TakesOut s d m (template_key t) o a d' m' o') where
    -- by the assembly that the key has
    told : Outgoing s d m (template_key t) o a d' m' o'
    told = outgoing s d m (template_key t) h.sound o a d' m' o' call

    -- what is given is what that assembly holds
    record Given (n : ℕ) : Type 0 where
      done : complete alone ≡ true
      size : n ≡ length (held_bytes alone)
      output_is : o' ≡ written (held_bytes alone) o

    given : (n : ℕ) → says a.answer ≡ gives n → Given n
    given n e = go (assembly_of s d m (template_key t)) refl (sym told.answer ∙ e) told.output_is
      where
        go : (w : Option State) → assembly_of s d m (template_key t) ≡ w → mapped length (out_by (length o) w) ≡ gives n → o' ≡ put_out (out_by (length o) w) o → Given n
        go None q r x = let z : ◌≡◌ {A = ℕ} 0 1 = cc in absurd (omega arith)
        go (Some u) q r x = inner (complete u) refl (fitting (length (held_bytes u)) (length o)) r x
          where
            inner : (b : Bool) → complete u ≡ b → (c : Answer ℕ)
                → mapped length (cond b (mapped (λ i. held_bytes u) c) (refused 27)) ≡ gives n
                → o' ≡ put_out (cond b (mapped (λ i. held_bytes u) c) (refused 27)) o → Given n
            inner false y c f g = let z : ◌≡◌ {A = ℕ} 0 1 = cc in absurd (omega arith)
            inner true y (refused i) f g = let z : ◌≡◌ {A = ℕ} 0 1 = cc in absurd (omega arith)
            inner true y (gives i) f g =
                let is = led_to_lem u q in
                let z : n ≡ length (held_bytes u) = cc in
                record {
                  done = sym (ap complete is) ∙ y;
                  size = z ∙ ap (λ (v : State). length (held_bytes v)) is;
                  output_is = g ∙ ap (λ (v : State). written (held_bytes v) o) is;
                }

    -- and it is given where that is complete and there is room
    answered : 0 < length (pieces_of (template_key t) ls) → complete alone ≡ true → length p ≤ length o → says a.answer ≡ gives (length p)
    unfolding alone
    answered some_piece c room =
        let whole : held_bytes alone ≡ p = built_whole slot_bytes slot_map (omega arith) (omega arith) t p one few ls built c in
        told.answer
        ∙ ap (λ (w : Option State). mapped length (out_by (length o) w)) (h.led (template_key t) ∙ led (pieces_of (template_key t) ls) some_piece ∙ ap Some (sym alone_is))
        ∙ ap (mapped length) (pick_yes _ _ c)
        ∙ ap (λ (b : List ℕ). mapped length (mapped (λ n. b) (fitting (length b) (length o)))) whole
        ∙ ap (λ (x : Answer ℕ). mapped length (mapped (λ n. p) x)) (pick_no _ _ (le-ltb (length o) (length p) room))
      where
        led : (ps : List Piece) → 0 < length ps → led_to (template_key t) ps ≡ Some (run (opened (template_key t) slot_bytes slot_map) ps)
        led [] n = absurd (omega arith)
        led (x ∷ ps) n = refl

  -- ---- a piece of the key is there exactly if one of the packets carries one
  piece_there : Carried (template_key t) ls → 0 < length (pieces_of (template_key t) ls)
  piece_there c =
      let e : pieces_of (template_key t) ls ≡ handed.pieces_of slot_bytes (template_key t) ls = own_pieces (template_key t) ls in
      let q = subst (λ (j : Key). Accepted slot_bytes j ls c.packet c.told.piece) c.key_is
      (record { handed = c.within; carries = keyed_piece_lem c.packet c.told c.carries }) in
      omega (arith, mem_length (handed.piece_in slot_bytes (template_key t) ls c.packet c.told.piece q), ap length e)

  there_piece : 0 < length (pieces_of (template_key t) ls) → Carried (template_key t) ls
  there_piece n = carried_by_lem (template_key t) ls (λ e. let z = ap length e in omega arith)

  pub table_from_one : TableFromOne t p ls s d m
  unfolding alone
  table_from_one =
      record {
        accepted = one_more;
        never_spoilt =
            λ u e. ap (λ (v : State). v.spoilt) (led_to_lem u e) ∙ built_sound slot_bytes slot_map (omega arith) (omega arith) t p one few ls built;
        complete_when =
            λ o a d' m' o' room call. (
              λ (n, e). let x = whole_when.0 (given o a d' m' o' call n e).done in (there_piece x.0, x.1),
              λ (c, cover). let n = piece_there c in (length p, answered o a d' m' o' call n (whole_when.1 (n, cover)) room),
            );
        holds =
            λ o a d' m' o' n call e.
            let g = given o a d' m' o' call n e in
            let whole = built_whole slot_bytes slot_map (omega arith) (omega arith) t p one few ls built g.done in
            (g.size ∙ ap length whole, g.output_is ∙ ap (λ (b : List ℕ). written b o) whole);
      }

-- "demand 3 then holds for each key whose pieces end within 8,192"
pub table_demand_3 : TableDemand3
table_demand_3 = record { from_one = λ t p one few ls s d m calls eight cut. table_from_one t p one few ls s d m calls eight cut }
