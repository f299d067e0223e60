-- The piece that a packet carries, and those of one key that packets carry.
use mathlib.Core.Path.{◌≡◌, refl, sym, ap, subst, ◌∙◌}
use mathlib.Core.Bool.{Bool, true, false, cond}
use mathlib.Core.List.Memᴰ
use mathlib.Core.List.{List, [], ◌∷◌, ◌++◌}
use Prim.Native.Nat.{ℕ, ◌+◌, ◌*◌}
use native.Mathlib.Omega.{arith}
use lib.ListN.{length}
use lib.Dec.{ltb}
use Rattle.pkt.specs.Answers.{Answer, refused, gives, and_then, mapped}
use Rattle.pkt.proofs.Choice.{pick_yes, pick_no}
use Rattle.inspect.specs.Header.{read_answer, data_of}
use Rattle.inspect.specs.declared.header.IpRead.{IpRead}
use Rattle.assembly.specs.declared.Key.{Key}
use Rattle.assembly.specs.Piece.{Piece, Acceptable}
use Rattle.assembly.specs.Carried.{key_of, same_key, broken, fit_answer, keyed_answer, head_answer, piece_of, piece_answer}
use Rattle.assembly.proofs.Carrying.{fitted, is_same}
use Rattle.assembly.proofs.Delivers as handed
use Rattle.table.specs.declared.Slot.{Slot}
use Rattle.table.specs.Slots.{slot_bytes, table_fits}
use Rattle.table.specs.Table.{Placing, place_for, stepped_by, piece_for, table_take}
use Rattle.table.specs.Mixed.{Keyed, keyed_in, own_of, pieces_of, Carried}
use Rattle.table.proofs.Keys.{same_is}
use Rattle.table.proofs.Held.{added}

-- ---- a packet, and the piece that it carries

-- 9 and 20, of the header h of the packet l, and the piece
abbrev fit_here : List ℕ → IpRead → Answer IpRead
fit_here l h = fit_answer slot_bytes 20 (length (data_of h l)) h

abbrev keyed : List ℕ → IpRead → Keyed
keyed l h = record { key = key_of h; piece = piece_of l h }

-- what is made of a header that is read, and of a piece
abbrev keyed_by : List ℕ → Answer IpRead → Answer Keyed
keyed_by l a = and_then a (λ h. mapped (λ g. keyed l h) (fit_here l h))

abbrev pub placed_by : List Slot → List ℕ → List ℕ → Keyed → Answer Placing
placed_by t d m x = mapped (stepped_by x.piece) (place_for t d m x.key)

-- what a table that is not refused by 11 answers is made of that piece
pub take_keyed : (t : List Slot) (d m l : List ℕ) → table_fits t (length d) (length m) ≡ true
    → table_take t d m l ≡ and_then (keyed_in l) (placed_by t d m)
unfolding table_take piece_for keyed_in
take_keyed t d m l u = pick_yes _ _ u ∙ go (read_answer l)
  where
    behind : (h : IpRead) (a : Answer IpRead)
        → and_then a (λ g. placed_by t d m (keyed l h)) ≡ and_then (mapped (λ g. keyed l h) a) (placed_by t d m)
    behind h (refused n) = refl
    behind h (gives g) = refl

    go : (a : Answer IpRead) → and_then a (λ h. piece_for t d m h (data_of h l)) ≡ and_then (keyed_by l a) (placed_by t d m)
    go (refused n) = refl
    go (gives h) = behind h (fit_here l h)

-- the piece is neither refused by 9 nor by 20
pub keyed_acceptable : (l : List ℕ) (x : Keyed) → keyed_in l ≡ gives x → Acceptable slot_bytes x.piece
unfolding keyed_in
keyed_acceptable l x e = go (read_answer l) e
  where
    behind : (h : IpRead) (a : Answer IpRead) → fit_here l h ≡ a → mapped (λ g. keyed l h) a ≡ gives x → Acceptable slot_bytes x.piece
    behind h (refused n) r q = let z : ◌≡◌ {A = ℕ} 0 1 = cc in absurd (omega arith)
    behind h (gives g) r q =
        let f = fitted slot_bytes 20 (length (data_of h l)) h g r in
        let z : keyed l h ≡ x = cc in
        subst (λ (k : Keyed). Acceptable slot_bytes k.piece) z (record { whole = f.blocks; fits = f.fits })

    go : (a : Answer IpRead) → keyed_by l a ≡ gives x → Acceptable slot_bytes x.piece
    go (refused n) q = let z : ◌≡◌ {A = ℕ} 0 1 = cc in absurd (omega arith)
    go (gives h) q = behind h (fit_here l h) refl q

-- ---- an assembly of the key k is handed the same pieces

own_piece : (k : Key) (l : List ℕ) (ps : List Piece) → own_of k (keyed_in l) ps ≡ handed.added (piece_answer slot_bytes k l) ps
unfolding keyed_in piece_answer head_answer keyed_answer fit_answer handed.added
own_piece k l ps = go (read_answer l)
  where
    other : (h : IpRead) → same_key (key_of h) k ≡ false → (a : Answer IpRead) → own_of k (mapped (λ g. keyed l h) a) ps ≡ ps
    other h e (refused n) = refl
    other h e (gives g) = pick_no _ _ e

    own : (h : IpRead) → same_key (key_of h) k ≡ true → (nine far : Bool)
        → own_of k (mapped (λ g. keyed l h) (cond nine (refused 9) (cond far (refused 20) (gives h)))) ps
        ≡ handed.added (mapped (piece_of l) (cond nine (refused 9) (cond far (refused 10) (gives h)))) ps
    own h e true far = refl
    own h e false true = refl
    own h e false false = pick_yes _ _ e

    keys : (h : IpRead) (b : Bool) → same_key (key_of h) k ≡ b → own_of k (mapped (λ g. keyed l h) (fit_here l h)) ps
        ≡ handed.added (and_then (cond b (gives h) (refused 8)) (λ g. mapped (piece_of l) (fit_answer slot_bytes 10 (length (data_of g l)) g))) ps
    keys h true e = own h e (broken h.mf (length (data_of h l))) (ltb slot_bytes (8 * h.off + length (data_of h l)))
    keys h false e = other h e (fit_here l h)

    go : (a : Answer IpRead) → own_of k (keyed_by l a) ps
        ≡ handed.added (and_then (and_then a (keyed_answer k)) (λ g. mapped (piece_of l) (fit_answer slot_bytes 10 (length (data_of g l)) g))) ps
    go (refused n) = refl
    go (gives h) = keys h (same_key (key_of h) k) refl

pub own_pieces : (k : Key) (ls : List (List ℕ)) → pieces_of k ls ≡ handed.pieces_of slot_bytes k ls
unfolding pieces_of handed.pieces_of
own_pieces k [] = refl
own_pieces k (l ∷ ls) = ap (own_of k (keyed_in l)) (own_pieces k ls) ∙ own_piece k l (handed.pieces_of slot_bytes k ls)

-- a piece that such an assembly is handed is the table's
pub piece_keyed : (k : Key) (l : List ℕ) (p : Piece) → piece_answer slot_bytes k l ≡ gives p → (x : Keyed) × (keyed_in l ≡ gives x) × (x.key ≡ k) × (x.piece ≡ p)
unfolding handed.added
piece_keyed k l p e =
    go (keyed_in l) refl (own_piece k l [] ∙ ap (λ (a : Answer Piece). handed.added a []) e)
  where
    own : (x : Keyed) → keyed_in l ≡ gives x → (b : Bool) → same_key x.key k ≡ b → cond b (x.piece ∷ []) [] ≡ p ∷ []
        → (y : Keyed) × (keyed_in l ≡ gives y) × (y.key ≡ k) × (y.piece ≡ p)
    own x q true s r = let z : x.piece ≡ p = cc in (x, q, same_is x.key k s, z)
    own x q false s r = let z : ◌≡◌ {A = ℕ} 0 1 = cc in absurd (omega arith)

    go : (a : Answer Keyed) → keyed_in l ≡ a → own_of k a [] ≡ p ∷ [] → (y : Keyed) × (keyed_in l ≡ gives y) × (y.key ≡ k) × (y.piece ≡ p)
    go (refused n) q r = let z : ◌≡◌ {A = ℕ} 0 1 = cc in absurd (omega arith)
    go (gives x) q r = own x q (same_key x.key k) refl r

-- .. and back
pub keyed_piece_lem : (l : List ℕ) (x : Keyed) → keyed_in l ≡ gives x → piece_answer slot_bytes x.key l ≡ gives x.piece
unfolding handed.added
keyed_piece_lem l x e =
    go (piece_answer slot_bytes x.key l) refl
    (sym (own_piece x.key l []) ∙ ap (λ (a : Answer Keyed). own_of x.key a []) e ∙ pick_yes _ _ (is_same x.key x.key refl))
  where
    go : (a : Answer Piece) → piece_answer slot_bytes x.key l ≡ a → handed.added a [] ≡ x.piece ∷ [] → piece_answer slot_bytes x.key l ≡ gives x.piece
    go (refused n) q r = let z : ◌≡◌ {A = ℕ} 0 1 = cc in absurd (omega arith)
    go (gives p) q r = let z : p ≡ x.piece = cc in q ∙ ap gives z

-- ---- a packet behind others

-- one that carries no piece
pub pieces_kept : (k : Key) (ls : List (List ℕ)) (l : List ℕ) (n : ℕ) → keyed_in l ≡ refused n → pieces_of k ls ≡ pieces_of k (ls ++ (l ∷ []))
unfolding pieces_of
pieces_kept k [] l n e = ap (λ (a : Answer Keyed). own_of k a []) (sym e)
pieces_kept k (x ∷ ls) l n e = ap (own_of k (keyed_in x)) (pieces_kept k ls l n e)

-- one that carries the piece of x
pub pieces_more : (ls : List (List ℕ)) (l : List ℕ) (x : Keyed) → keyed_in l ≡ gives x → (k : Key)
    → added (λ j. pieces_of j ls) x.key x.piece k ≡ pieces_of k (ls ++ (l ∷ []))
unfolding pieces_of added
pieces_more [] l x e k = ap (λ (a : Answer Keyed). own_of k a []) (sym e)
pieces_more (y ∷ ls) l x e k = front (keyed_in y) (same_key x.key k) ∙ ap (own_of k (keyed_in y)) (pieces_more ls l x e k)
  where
    front : (a : Answer Keyed) (b : Bool) → cond b (own_of k a (pieces_of k ls) ++ (x.piece ∷ [])) (own_of k a (pieces_of k ls))
        ≡ own_of k a (cond b (pieces_of k ls ++ (x.piece ∷ [])) (pieces_of k ls))
    front (refused n) b = refl
    front (gives z) false = refl
    front (gives z) true = inner (same_key z.key k)
      where
        inner : (c : Bool) → cond c (z.piece ∷ pieces_of k ls) (pieces_of k ls) ++ (x.piece ∷ [])
            ≡ cond c (z.piece ∷ (pieces_of k ls ++ (x.piece ∷ []))) (pieces_of k ls ++ (x.piece ∷ []))
        inner true = refl
        inner false = refl

-- where there is a piece, one does
pub carried_by_lem : (k : Key) (ls : List (List ℕ)) → (pieces_of k ls ≡ [] → ⊥) → Carried k ls
unfolding pieces_of
carried_by_lem k [] ne = absurd (ne refl)
carried_by_lem k (l ∷ ls) ne = go (keyed_in l) refl ne (λ h. carried_by_lem k ls h)
  where
    later : Carried k ls → Carried k (l ∷ ls)
    later c = record { packet = c.packet; told = c.told; within = Memᴰ.tail c.within; carries = c.carries; key_is = c.key_is }

    own : (x : Keyed) → keyed_in l ≡ gives x → (b : Bool) → same_key x.key k ≡ b → (cond b (x.piece ∷ pieces_of k ls) (pieces_of k ls) ≡ [] → ⊥)
        → ((pieces_of k ls ≡ [] → ⊥) → Carried k ls) → Carried k (l ∷ ls)
    own x e true s h r = record { packet = l; told = x; within = Memᴰ.head refl; carries = e; key_is = same_is x.key k s }
    own x e false s h r = later (r h)

    go : (a : Answer Keyed) → keyed_in l ≡ a → (own_of k a (pieces_of k ls) ≡ [] → ⊥) → ((pieces_of k ls ≡ [] → ⊥) → Carried k ls) → Carried k (l ∷ ls)
    go (refused n) e h r = later (r h)
    go (gives x) e h r = own x e (same_key x.key k) refl h r
