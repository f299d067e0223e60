-- Demand 3 over packets: handing in packets is taking the pieces of those that are accepted, one after the other.
use mathlib.Core.Path.{◌≡◌, refl, sym, ap, ◌∙◌}
use mathlib.Core.Logic.{◌↔◌, ◌⊎◌, inl, inr}
use mathlib.Core.Bool.{Bool, true, false, not, ◌&&◌, cond, true≢false}
use mathlib.Core.List.Memᴰ
use mathlib.Core.List.{List, [], ◌∷◌, Memᴰ}
use Prim.Native.Nat.{ℕ, ◌*◌, ◌≤◌}
use native.Mathlib.Omega.{arith}
use lib.ListN.{length, take, length-replicate}
use Rattle.std.specs.Prelude.{Result, Ok}
use Rattle.pkt.specs.Answers.{Answer, refused, gives, mapped, says}
use Rattle.pkt.specs.declared.refusal.Refusal.{Refusal}
use Rattle.assembly.specs.declared.Key.{Key}
use Rattle.assembly.specs.declared.Rec.{Rec}
use Rattle.assembly.specs.declared.Outcome.TheVariants.{Waiting, Complete, Spoilt}
use Rattle.assembly.specs.declared.Taken.{Taken}
use Rattle.assembly.specs.Piece.{Piece, Acceptable, Contradictory, Same}
use Rattle.assembly.specs.Assembly.{State, opened, step, run, held_to, complete, held_bytes, outcome}
use Rattle.assembly.specs.View.{view, record_of}
use Rattle.assembly.specs.Answers.{reply_of, state_after, rec_after, payload_after, map_after, standing}
use Rattle.assembly.specs.Carried.{piece_answer}
use Rattle.assembly.specs.Calls.{capacity, map_bytes, sized, usable, open_answer, Opens, take_answer, Takes, stands_answer, Gathered}
use Rattle.assembly.specs.Demand as demand
use Rattle.assembly.specs.Packets.{after, take_all, Accepted, SamePieces, TwoContradict, Delivers}
use Rattle.pkt.proofs.Choice.{pick_yes}
use Rattle.assembly.proofs.Steps.{view_of}
use Rattle.assembly.proofs.Pieces.{all_cons}
use Rattle.assembly.proofs.Describes.{Describes, spoiled, sound, opened_describes, step_describes, run_describes, any_order, spoilt_exactly}
use Rattle.assembly.proofs.Assembles.{describes_valid}
use Rattle.assembly.proofs.Calls.{usable_of, take_by}
use Rattle.assembly.proofs.Carrying.{acceptable}

-- ---- the pieces of a list of packets: those that the accepted ones carry
unfoldable pub added : Answer Piece → List Piece → List Piece
added (gives p) ps = p ∷ ps
added (refused n) ps = ps

unfoldable pub pieces_of : ℕ → Key → List (List ℕ) → List Piece
pieces_of C k [] = []
pieces_of C k (l ∷ ls) = added (piece_answer C k l) (pieces_of C k ls)

module _ (C : ℕ) (k : Key) where
  pub piece_from : (ls : List (List ℕ)) (p : Piece) → Memᴰ p (pieces_of C k ls) → (l : List ℕ) × Accepted C k ls l p
  unfolding pieces_of added
  piece_from [] p m = absurd (Memᴰ.not-nil m)
  piece_from (l ∷ ls) p m = go (piece_from ls p) (piece_answer C k l) refl m
    where
      later : (x : List ℕ) × Accepted C k ls x p → (x : List ℕ) × Accepted C k (l ∷ ls) x p
      later t = (t.0, record { handed = Memᴰ.tail t.1.handed; carries = t.1.carries })

      go : (Memᴰ p (pieces_of C k ls) → (x : List ℕ) × Accepted C k ls x p) → (a : Answer Piece) → piece_answer C k l ≡ a → Memᴰ p (added a (pieces_of C k ls))
          → (x : List ℕ) × Accepted C k (l ∷ ls) x p
      go below (refused n) e h = later (below h)
      go below (gives q) e h = pick (Memᴰ.cases_cons h)
        where
          pick : (p ≡ q) ⊎ (Memᴰ p (pieces_of C k ls)) → (x : List ℕ) × Accepted C k (l ∷ ls) x p
          pick (inl z) = (l, record { handed = Memᴰ.head refl; carries = e ∙ ap gives (sym z) })
          pick (inr h) = later (below h)

  pub piece_in : (ls : List (List ℕ)) (l : List ℕ) (p : Piece) → Accepted C k ls l p → Memᴰ p (pieces_of C k ls)
  unfolding pieces_of added
  piece_in [] l p a = absurd (Memᴰ.not-nil a.handed)
  piece_in (x ∷ ls) l p a = go (λ m. piece_in ls l p (record { handed = m; carries = a.carries })) (Memᴰ.cases_cons a.handed) (piece_answer C k x) refl
    where
      go : (Memᴰ l ls → Memᴰ p (pieces_of C k ls)) → (l ≡ x) ⊎ Memᴰ l ls → (b : Answer Piece) → piece_answer C k x ≡ b → Memᴰ p (added b (pieces_of C k ls))
      go below (inl z) (gives q) e =
          let w : gives q ≡ gives p = sym e ∙ ap (piece_answer C k) (sym z) ∙ a.carries in
          let v : p ≡ q = cc in
          Memᴰ.head v
      go below (inl z) (refused n) e =
          let w : refused n ≡ gives p = sym e ∙ ap (piece_answer C k) (sym z) ∙ a.carries in
          let v : ◌≡◌ {A = ℕ} 0 1 = cc in
          absurd (omega arith)
      go below (inr m) (gives q) e = Memᴰ.tail (below m)
      go below (inr m) (refused n) e = below m

  pub pieces_accepted : (ls : List (List ℕ)) → demand.AllAcceptable C (pieces_of C k ls)
  pieces_accepted ls p m = let t = piece_from ls p m in acceptable C k t.0 p t.1.carries

  same_pieces : (ls ms : List (List ℕ)) → SamePieces C k ls ms → Same (pieces_of C k ls) (pieces_of C k ms)
  same_pieces ls ms s =
      record {
        to = λ p m. let t = piece_from ls p m in let u = s.to t.0 p t.1 in piece_in ms u.0 p u.1;
        from = λ p m. let t = piece_from ms p m in let u = s.from t.0 p t.1 in piece_in ls u.0 p u.1;
      }

  contradicts : (ls : List (List ℕ)) → Contradictory (pieces_of C k ls) ↔ TwoContradict C k ls
  contradicts ls = (
    λ c.
        let x = piece_from ls c.one c.one_in in
        let y = piece_from ls c.other c.other_in in
        record { one = x.0; other = y.0; p = c.one; q = c.other; one_in = x.1; other_in = y.1; clash = c.clash },
    λ t.
        record {
          one = t.p;
          other = t.q;
          one_in = piece_in ls t.one t.p t.one_in;
          other_in = piece_in ls t.other t.q t.other_in;
          clash = t.clash;
        },
  )

-- ---- what a call leads to
opening : (C M : ℕ) (k : Key) (d m d' m' : List ℕ) (r : Rec) → Opens C M k d m (Ok r) d' m' → view r d' m' ≡ opened k C M
unfolding open_answer
opening C M k d m d' m' r o = go (sized C M (length d) (length m)) o.answer o.payload_is o.map_is
  where
    go : (b : Bool) → gives r ≡ mapped record_of (cond b (gives (opened k C M)) (refused 11))
        → d' ≡ payload_after (cond b (gives (opened k C M)) (refused 11)) d → m' ≡ map_after (cond b (gives (opened k C M)) (refused 11)) m
        → view r d' m' ≡ opened k C M
    go true x y z = let w : r ≡ record_of (opened k C M) = cc in (λ i. view (w i) (y i) (z i)) ∙ view_of (opened k C M)
    go false x y z = let w : ◌≡◌ {A = ℕ} 0 1 = cc in absurd (omega arith)

calling : (C M : ℕ) (r : Rec) (d m l : List ℕ) (a : Result Taken Refusal) (d' m' : List ℕ) → Takes C M (view r d m) l a d' m'
    → view (rec_after (says a) r) d' m' ≡ after C M (view r d m) l
unfolding after
calling C M r d m l a d' m' t = (λ i. view (rec_after (t.answer i) r) (t.payload_is i) (t.map_is i)) ∙ go (take_answer C M (view r d m) l)
  where
    go : (x : Answer State) → view (rec_after (mapped reply_of x) r) (payload_after x d) (map_after x m) ≡ state_after x (view r d m)
    go (gives s) = view_of s
    go (refused n) = refl

module _ (C M : ℕ) (k : Key) (room : C ≤ 64 * M) where
  sizes : (s : State) (qs : List Piece) → Describes k C M s qs → (s.key ≡ k) × (length s.payload ≡ C) × (length s.map ≡ M)
  sizes s qs (spoiled c e) = (
    ap (λ (t : State). t.key) e,
    ap (λ (t : State). length t.payload) e ∙ length-replicate C 0,
    ap (λ (t : State). length t.map) e ∙ length-replicate M 0,
  )
  sizes s qs (sound n g) = (g.key_is, g.size, g.is_map.size)

  describes_usable : (s : State) (qs : List Piece) → demand.AllAcceptable C qs → Describes k C M s qs → usable C M s ≡ true
  describes_usable s qs ok d = let z = sizes s qs d in usable_of C M s z.1 z.2 (describes_valid k C M s qs ok d)

  answers : (s : State) (qs : List Piece) → demand.AllAcceptable C qs → Describes k C M s qs → (l : List ℕ)
      → take_answer C M s l ≡ mapped (step s) (piece_answer C k l)
  answers s qs ok d l =
      take_by C M s l (piece_answer C k l) (describes_usable s qs ok d) (ap (λ (κ : Key). piece_answer C κ l) (sizes s qs d).0)

  -- Packets are taken as the pieces of those that are accepted.
  follow : (ls : List (List ℕ)) (s : State) (qs : List Piece) → demand.AllAcceptable C qs → Describes k C M s qs → take_all C M s ls ≡ run s (pieces_of C k ls)
  unfolding take_all after run pieces_of added
  follow [] s qs ok d = refl
  follow (l ∷ ls) s qs ok d = ap (λ (a : Answer State). take_all C M (state_after a s) ls) (answers s qs ok d l) ∙ go (follow ls) (piece_answer C k l) refl
    where
      go : ((s : State) (qs : List Piece) → demand.AllAcceptable C qs → Describes k C M s qs → take_all C M s ls ≡ run s (pieces_of C k ls))
          → (a : Answer Piece) → piece_answer C k l ≡ a
          → take_all C M (state_after (mapped (step s) a) s) ls ≡ run s (added a (pieces_of C k ls))
      go below (refused n) e = below s qs ok d
      go below (gives p) e =
          let ok' : demand.AllAcceptable C (p ∷ qs) = all_cons {P = λ q. Acceptable C q} (acceptable C k l p e) ok in
          below (step s p) (p ∷ qs) ok' (step_describes k C M s qs p room ok' d)

  pub taken_is : (ls : List (List ℕ)) → take_all C M (opened k C M) ls ≡ run (opened k C M) (pieces_of C k ls)
  taken_is ls = follow ls (opened k C M) [] (λ p m. absurd (Memᴰ.not-nil m)) (opened_describes k C M)

  pub taken_describes : (ls : List (List ℕ)) → Describes k C M (take_all C M (opened k C M) ls) (pieces_of C k ls)
  taken_describes ls = rw (taken_is ls) (run_describes k C M (pieces_of C k ls) room (pieces_accepted C k ls))

  -- 11 is given in no state that packets lead to.
  pub taken_usable : (ls : List (List ℕ)) → usable C M (take_all C M (opened k C M) ls) ≡ true
  taken_usable ls = describes_usable (take_all C M (opened k C M) ls) (pieces_of C k ls) (pieces_accepted C k ls) (taken_describes ls)

pub delivers : (C M : ℕ) (k : Key) → C ≤ 64 * M → Delivers C M k
delivers C M k room =
    record {
      opening = opening C M k;
      calling = calling C M;
      answers = λ ls l. answers C M k room (take_all C M (opened k C M) ls) (pieces_of C k ls) (pieces_accepted C k ls) (taken_describes C M k room ls) l;
      one_end =
          λ ls ms same.
          taken_is C M k room ls
          ∙ any_order k C M (pieces_of C k ls) (pieces_of C k ms) room (pieces_accepted C k ls) (same_pieces C k ls ms same)
          ∙ sym (taken_is C M k room ms);
      spoilt_when =
          λ ls.
          let x = spoilt_exactly k C M (pieces_of C k ls) room (pieces_accepted C k ls) in
          let y = contradicts C k ls in
          let z = ap (λ (s : State). s.spoilt) (taken_is C M k room ls) in
          (λ e. y.0 (x.0 (sym z ∙ e)), λ t. z ∙ x.1 (y.1 t));
    }

-- The answer is complete exactly where the total is known and every byte below it held.
pub says_complete : (s : State) → (outcome s ≡ Complete) ↔ (complete s ≡ true)
unfolding outcome complete
says_complete s = go s.spoilt (held_to s.map s.total)
  where
    go : (b h : Bool) → (cond b Spoilt (cond h Complete Waiting) ≡ Complete) ↔ ((not b && h) ≡ true)
    go true h = (λ e. let z : ◌≡◌ {A = ℕ} 0 1 = cc in absurd (omega arith), λ e. absurd (true≢false (sym e)))
    go false true = (λ e. refl, λ e. refl)
    go false false = (λ e. let z : ◌≡◌ {A = ℕ} 0 1 = cc in absurd (omega arith), λ e. absurd (true≢false (sym e)))

-- `progress` answers that with the length of what is held.
pub gathered : (ok : Bool) (s : State) (d : List ℕ) → ok ≡ true → complete s ≡ true → held_bytes s ≡ d → take (length d) s.payload ≡ d
    → Gathered (stands_answer ok s) s.payload d
gathered ok s d o c w b =
    record { told = pick_yes _ _ o ∙ (λ i. gives (standing ((says_complete s).1 c i) (length (w i)))); bytes = b }

-- demand 3 over packets, at document 01's sizes
pub delivers_here : (k : Key) → Delivers capacity map_bytes k
delivers_here k = delivers capacity map_bytes k (omega arith)
