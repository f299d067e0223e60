-- Document 02, T-01: "The result equals building them one by one in list order."
use mathlib.Core.Path.{◌≡◌, refl, sym, ap, ◌∙◌}
use mathlib.Core.Bool.{Bool, true, false, cond}
use mathlib.Core.List.{List, [], ◌∷◌, ◌++◌}
use Prim.Native.Nat.{ℕ, suc, ◌+◌, ◌<◌, ◌≤◌}
use native.Mathlib.Nat.{not-suc-le-zero, le_of_suc-le-suc}
use native.Mathlib.Omega.{arith}
use lib.ListN.{length, take, drop, length-drop}
use lib.Dec.{ltb}
use borrow.Author.Tests.{ltb-true, lt-ltb, le-ltb}
use Rattle.pkt.specs.Answers.{Answer, refused, gives, ListAnswer, refused_at, gives_all, plainly, most_ip, most_offset}
use Rattle.std.specs.Prelude.{Result, Ok, Err}
use Rattle.pkt.specs.Written.{written, leaves}
use Rattle.pkt.specs.Refusal.{number_of}
use Rattle.pkt.specs.declared.refusal.Refusal.{Refusal}
use Rattle.pkt.specs.declared.refusal.Refusal.TheVariants.{BadOffset}
use Rattle.pkt.specs.declared.refusal.ListRefusal.{ListRefusal}
use Rattle.pkt.specs.declared.refusal.ListRefusal.TheVariants.{At}
use Rattle.pkt.proofs.Only.{says_only, list_says_only}
use Rattle.pkt.proofs.Choice.{pick_no}
use Rattle.pkt.proofs.Written.{written_length, written_then}
use Rattle.ezpkt.specs.Build.{packet_of, is_bad_offset, Answered}
use Rattle.ezpkt.specs.Ip4.{fragment_of}
use Rattle.ezpkt.specs.declared.ip4.Template.{Template}
use Rattle.ezpkt.proofs.Deciding.{piece_fits, piece_given}
use Rattle.ezpkt.proofs.Sizes.{size_is}
use Rattle.pieces.specs.declared.BlockRequest.{BlockRequest}
use Rattle.pieces.specs.Fragments.{packets_of, size_for, ends_from, sum_of, first_bad, fragments_answer, Fragmented}
use Rattle.pieces.specs.OneByOne.{OneByOne, none, one, request_at, RefusedBy2, NotRefusedBy2, ListEquals}
use Rattle.pieces.proofs.Turns.{Decided, stopped, stopped_at, goes, decided, fits_gives, gives_fits, near_before, written_none}

-- the packet of a request
abbrev packet : Template → List ℕ → BlockRequest → List ℕ
packet t p r = packet_of (fragment_of t r.off r.len) p

-- ---- one call

-- a request whose offset is near enough is taken where its packet has room
takes : (t : Template) (r : BlockRequest) (p o : List ℕ) → length p ≤ most_ip → r.off ≤ most_offset → size_for (length p) r ≤ length o
    → Answered (fragment_of t r.off r.len) p o (Ok (size_for (length p) r)) (written (packet t p r) o)
takes t r p o few near fits =
    let yes = piece_given t r.off r.len (length p) (length o) few near fits in
    record { answer = sym yes; after = ap (λ (a : Answer ℕ). leaves a (packet t p r) o) (sym yes) }

-- what an accepted call tells of its request, of its length and of its bytes
record Took (t : Template) (r : BlockRequest) (p o : List ℕ) (n : ℕ) (o₁ : List ℕ) : Type 0 where
  near : r.off ≤ most_offset
  room_for : size_for (length p) r ≤ length o
  is_size : size_for (length p) r ≡ n
  bytes : o₁ ≡ written (packet t p r) o

took : (t : Template) (r : BlockRequest) (p o : List ℕ) (n : ℕ) (o₁ : List ℕ)
    → Answered (fragment_of t r.off r.len) p o (Ok n) o₁ → Took t r p o n o₁
took t r p o n o₁ x =
    let f = piece_fits (record { template = t; off = r.off; len = r.len }) (length p) (length o) n (sym x.answer) in
    record {
      near = f.0;
      room_for = f.1.room_for;
      is_size = f.1.is_size;
      bytes = x.after ∙ ap (λ (a : Answer ℕ). leaves a (packet t p r) o) (sym x.answer);
    }

-- a packet is as long as its size says
size_of : (t : Template) (r : BlockRequest) (p : List ℕ) → length (packet t p r) ≡ size_for (length p) r
size_of t r p = size_is (fragment_of t r.off r.len) p

-- what is left of the output behind n bytes that were written
left_length : (k o : List ℕ) (n : ℕ) → length k ≡ n → n ≤ length o → length (drop n (written k o)) + n ≡ length o
left_length k o n e h = omega (arith, length-drop n (written k o), written_length k o (omega arith))

-- Number 2 is given for a bad offset,
refuses : (t : Template) (p : List ℕ) (r : BlockRequest) → length p ≤ most_ip → most_offset < r.off → RefusedBy2 t p r
refuses t p r few bad o o' s x = says_only s (Err BadOffset) (refused 2) (x.answer ∙ simp (le-ltb _ _ few, lt-ltb _ _ bad)) refl

-- .. and for no other.
refuses_not : (t : Template) (p : List ℕ) (r : BlockRequest) → length p ≤ most_ip → r.off ≤ most_offset → NotRefusedBy2 t p r
refuses_not t p r few near o o' x =
    go (ltb (length o) (size_for (length p) r)) (x.answer ∙ simp (le-ltb _ _ few, le-ltb _ _ near))
  where
    go : (b : Bool) → refused 2 ≡ cond b (refused 3) (gives (size_for (length p) r)) → ⊥
    go true e = let z : ◌≡◌ {A = ℕ} 2 3 = cc in omega arith
    go false e = let z : ◌≡◌ {A = ℕ} 0 1 = cc in omega arith

-- ---- the first bad offset

-- behind a request that is not bad
first_is_near : (r : BlockRequest) (rs : List BlockRequest) → r.off ≤ most_offset → first_bad (r ∷ rs) ≡ suc (first_bad rs)
unfolding first_bad
first_is_near r rs h = pick_no _ _ (le-ltb _ _ h)

-- the first bad one is bad
first_is_bad : (rs : List BlockRequest) → first_bad rs < length rs → most_offset < (request_at rs (first_bad rs)).off
unfolding first_bad
first_is_bad [] h = absurd (not-suc-le-zero h)
first_is_bad (r ∷ rs) h = go (is_bad_offset r.off) refl h (first_is_bad rs)
  where
    go : (b : Bool) → is_bad_offset r.off ≡ b → cond b 0 (suc (first_bad rs)) < suc (length rs)
        → (first_bad rs < length rs → most_offset < (request_at rs (first_bad rs)).off)
        → most_offset < (request_at (r ∷ rs) (cond b 0 (suc (first_bad rs)))).off
    go true e g more = ltb-true _ _ e
    go false e g more = more (le_of_suc-le-suc g)

-- ---- from the call to the single calls

-- where no offset is bad and the packets have room, each single call is accepted, and they leave the packets and the ends
one_by_one : (t : Template) (p : List ℕ) (at : ℕ) (rs : List BlockRequest) (o : List ℕ) → length p ≤ most_ip → length rs ≤ first_bad rs
    → sum_of (length p) rs ≤ length o → OneByOne t p at rs o (written (packets_of t rs p) o) (ends_from (length p) at rs)
unfolding packets_of ends_from sum_of
one_by_one t p at [] o few near room = rw written_none (none at o)
one_by_one t p at (r ∷ rs) o few near room =
    let n = size_for (length p) r in
    let pk = packet t p r in
    let h : r.off ≤ most_offset = near_before (r ∷ rs) 0 (omega arith) in
    let fits : n ≤ length o = omega arith in
    let near-others : length rs ≤ first_bad rs = omega (arith, first_is_near r rs h) in
    let room-left : sum_of (length p) rs ≤ length (drop n (written pk o)) = omega (arith, left_length pk o n (size_of t r p) fits) in
    let more = one_by_one t p (at + n) rs (drop n (written pk o)) few near-others room-left in
    rw (← written_then pk (packets_of t rs p) o n (size_of t r p))
    (one at n r rs o (written pk o) _ _ (takes t r p o few h fits) more)

-- ---- and back

-- what the single calls tell of the list, and of what they leave
record Told (t : Template) (p : List ℕ) (at : ℕ) (rs : List BlockRequest) (o o₁ es : List ℕ) : Type 0 where
  none_bad : length rs ≤ first_bad rs
  room_for : sum_of (length p) rs ≤ length o
  bytes : o₁ ≡ written (packets_of t rs p) o
  ends : es ≡ ends_from (length p) at rs

told : {t : Template} {p : List ℕ} {at : ℕ} {rs : List BlockRequest} {o o₁ es : List ℕ} → OneByOne t p at rs o o₁ es → Told t p at rs o o₁ es
unfolding packets_of ends_from sum_of
told (none at o) = record { none_bad = omega arith; room_for = omega arith; bytes = sym (written_none o); ends = refl }
told {t} {p} (one at n r rs o o₁ rest es x more) =
    let pk = packet t p r in
    let k = took t r p o n o₁ x in
    let m = told more in
    let e = size_of t r p ∙ k.is_size in
    record {
      none_bad = omega (arith, m.none_bad, first_is_near r rs k.near);
      room_for =
          omega (
            arith,
            m.room_for,
            k.is_size,
            ap (λ (l : List ℕ). length (drop n l)) k.bytes,
            left_length pk o n e (omega (arith, k.is_size, k.room_for)),
          );
      bytes =
          ap (λ (l : List ℕ). take n o₁ ++ l) m.bytes
          ∙ ap (λ (l : List ℕ). take n l ++ written (packets_of t rs p) (drop n l)) k.bytes
          ∙ written_then pk (packets_of t rs p) o n e;
      ends =
          ap (λ (l : List ℕ). (at + n) ∷ l) m.ends
          ∙ ap (λ (j : ℕ). (at + j) ∷ ends_from (length p) (at + j) rs) (sym k.is_size);
    }

-- what an accepted call leaves
leaves_all : (t : Template) (rs : List BlockRequest) (p o e o' e' : List ℕ) (r : Result ℕ ListRefusal) (k : ℕ) → Fragmented t rs p o e r o' e'
    → fragments_answer rs (length p) (length o) (length e) ≡ gives_all k
    → (o' ≡ written (packets_of t rs p) o) × (e' ≡ written (ends_from (length p) 0 rs) e)
leaves_all t rs p o e o' e' r k x q = (
  ap (λ b. b.0) x.after ∙ ap (λ (a : ListAnswer ℕ). leaves (plainly a) (packets_of t rs p) o) q,
  ap (λ b. b.1) x.after ∙ ap (λ (a : ListAnswer ℕ). leaves (plainly a) (ends_from (length p) 0 rs) e) q,
)

-- an index is given with number 2 alone, and is the first bad request's
record BadAt (rs : List BlockRequest) (m : ℕ) (n : Refusal) (i : ℕ) : Type 0 where
  few : m ≤ most_ip
  is_2 : n ≡ BadOffset
  is_first : i ≡ first_bad rs
  in_list : first_bad rs < length rs

bad_at : (rs : List BlockRequest) (m room places : ℕ) (n : Refusal) (i : ℕ) → refused_at (number_of n) i ≡ fragments_answer rs m room places → BadAt rs m n i
bad_at rs m room places n i e = go (decided rs m room places) e
  where
    go : {a : ListAnswer ℕ} → Decided rs m room places a → refused_at (number_of n) i ≡ a → BadAt rs m n i
    go (stopped j) q = let z : ◌≡◌ {A = ℕ} 0 1 = cc in absurd (omega arith)
    go (stopped_at few bad) q = record { few = few; is_2 = cc (list_says_only {A = ℕ} (Err (At n i)) (Err (At BadOffset (first_bad rs))) _ q refl); is_first = cc; in_list = bad }
    go (goes f) q = let z : ◌≡◌ {A = ℕ} 0 1 = cc in absurd (omega arith)

-- "The result equals building them one by one in list order."
pub list_equals : ListEquals
list_equals =
    record {
      accepted =
          λ t rs p o e o' e' k x.
          let f = gives_fits rs (length p) (length o) (length e) k x.answer in
          let l = leaves_all t rs p o e o' e' (Ok k) k x (sym x.answer) in (
            ends_from (length p) 0 rs,
            rw l.0 (one_by_one t p 0 rs o f.few f.none_bad f.room_for),
            l.1,
          );
      back =
          λ t rs p o e o' e' o₁ es r few places x y.
          let m = told x in
          let g =
          fits_gives rs (length p) (length o) (length e)
          (record { few = few; none_bad = m.none_bad; room_for = m.room_for; places_for = places }) in
          let l = leaves_all t rs p o e o' e' r (sum_of (length p) rs) y g in (
            list_says_only r (Ok (sum_of (length p) rs)) (gives_all (sum_of (length p) rs)) (y.answer ∙ g) refl,
            l.0 ∙ sym m.bytes,
            l.1 ∙ ap (λ (k : List ℕ). written k e) (sym m.ends),
          );
      first_bad =
          λ t rs p o e o' e' n i x.
          let b = bad_at rs (length p) (length o) (length e) n i x.answer in (
            b.is_2,
            omega (arith, b.is_first, b.in_list),
            rw b.is_first (refuses t p (request_at rs (first_bad rs)) b.few (first_is_bad rs b.in_list)),
            λ j h. refuses_not t p (request_at rs j) b.few (near_before rs j (omega (arith, b.is_first))),
          );
    }
