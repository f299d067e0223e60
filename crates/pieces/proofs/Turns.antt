-- The loop that writes, after i turns: the end of the last packet, the output and the ends.
use mathlib.Core.Path.{◌≡◌, refl, sym, ap, ap₂, ◌∙◌}
use mathlib.Core.Bool.{Bool, true, false, ◌||◌, cond}
use mathlib.Core.List.{List, [], ◌∷◌, ◌++◌, append_assoc, append-nil}
use Prim.Native.Nat.{ℕ, zero, suc, ◌+◌, ◌<◌, ◌≤◌}
use native.Mathlib.Nat.{zero-add, not-suc-le-zero, le_of_suc-le-suc}
use native.Mathlib.Numerals.{add-one}
use native.Mathlib.Omega.{arith}
use lib.ListN.{length, get_or, set, take, drop, length-append, length-take}
use lib.Seq.{take-suc, take-length}
use lib.Dec.{ltb}
use borrow.Author.Tests.{ltb-true, ltb-false, le-ltb}
use Rattle.std.specs.Prelude.{Result, Ok, Err}
use Rattle.pkt.specs.declared.refusal.ListRefusal.{ListRefusal}
use Rattle.pkt.specs.declared.refusal.ListRefusal.TheVariants.{Whole, At}
use Rattle.pkt.specs.Answers.{ListAnswer, refused_whole, refused_at, gives_all, list_says, plainly, most_ip, most_offset}
use Rattle.pkt.specs.Written.{written, leaves}
use Rattle.pkt.proofs.Choice.{or_no}
use Rattle.pkt.proofs.Written.{written_then}
use Rattle.ezpkt.specs.Build.{packet_of, is_bad_offset}
use Rattle.ezpkt.specs.Ip4.{fragment_of}
use Rattle.ezpkt.specs.declared.ip4.Template.{Template}
use Rattle.ezpkt.proofs.Sizes.{size_is}
use Rattle.pieces.specs.declared.BlockRequest.{BlockRequest}
use Rattle.pieces.specs.Fragments.{packets_of, size_for, ends_from, sum_of, first_bad, fragments_answer, Fragmented}
use Rattle.pieces.specs.OneByOne.{no_request, request_at}
use Rattle.pieces.specs.Survey.{Fits, PutAsks, Put}

-- ---- the answer's cases

-- an answer, and what holds where it is given
pub data Decided (rs : List BlockRequest) (n room places : ℕ) : ListAnswer ℕ → Type 0 where
  stopped : (k : ℕ) → Decided rs n room places (refused_whole k)
  stopped_at : n ≤ most_ip → first_bad rs < length rs → Decided rs n room places (refused_at 2 (first_bad rs))
  goes : Fits rs n room places → Decided rs n room places (gives_all (sum_of n rs))

-- the answer is one of these
pub decided : (rs : List BlockRequest) (n room places : ℕ) → Decided rs n room places (fragments_answer rs n room places)
decided rs n room places =
    go (ltb most_ip n) (ltb (first_bad rs) (length rs)) (ltb room (sum_of n rs) || ltb places (length rs)) refl refl refl
  where
    go : (a b c : Bool) → ltb most_ip n ≡ a → ltb (first_bad rs) (length rs) ≡ b → (ltb room (sum_of n rs) || ltb places (length rs)) ≡ c
        → Decided rs n room places (cond a (refused_whole 1) (cond b (refused_at 2 (first_bad rs)) (cond c (refused_whole 3) (gives_all (sum_of n rs)))))
    go true b c x y z = stopped 1
    go false true c x y z = stopped_at (ltb-false _ _ x) (ltb-true _ _ y)
    go false false true x y z = stopped 3
    go false false false x y z =
        let no = or_no (ltb room (sum_of n rs)) (ltb places (length rs)) z in
        goes
        (record {
          few = ltb-false _ _ x;
          none_bad = ltb-false _ _ y;
          room_for = ltb-false _ _ no.0;
          places_for = ltb-false _ _ no.1;
        })

-- where nothing stops the call, it is accepted
pub fits_gives : (rs : List BlockRequest) (n room places : ℕ) → Fits rs n room places → fragments_answer rs n room places ≡ gives_all (sum_of n rs)
fits_gives rs n room places f =
    simp (le-ltb _ _ f.few, le-ltb _ _ f.none_bad, le-ltb _ _ f.room_for, le-ltb _ _ f.places_for)

-- .. and only there
pub gives_fits : (rs : List BlockRequest) (n room places k : ℕ) → gives_all k ≡ fragments_answer rs n room places → Fits rs n room places
gives_fits rs n room places k e = go (decided rs n room places) e
  where
    go : {a : ListAnswer ℕ} → Decided rs n room places a → gives_all k ≡ a → Fits rs n room places
    go (stopped j) q = absurd cc
    go (stopped_at few bad) q = absurd cc
    go (goes f) q = f

-- ---- bad offsets

-- before the first bad offset none is bad
pub near_before : (rs : List BlockRequest) (i : ℕ) → i < first_bad rs → (request_at rs i).off ≤ most_offset
unfolding first_bad
near_before [] i h = absurd (not-suc-le-zero h)
near_before (r ∷ rs) i h = go (is_bad_offset r.off) i refl h (near_before rs)
  where
    go : (b : Bool) (i : ℕ) → is_bad_offset r.off ≡ b → i < cond b 0 (suc (first_bad rs))
        → ((j : ℕ) → j < first_bad rs → (get_or rs j no_request).off ≤ most_offset) → (get_or (r ∷ rs) i no_request).off ≤ most_offset
    go true i e g more = absurd (not-suc-le-zero g)
    go false zero e g more = ltb-false _ _ e
    go false (suc i) e g more = more i (le_of_suc-le-suc g)

-- ---- one request more at the end

-- the packets are as long as the sum says
packets_length : (t : Template) (rs : List BlockRequest) (p : List ℕ) → length (packets_of t rs p) ≡ sum_of (length p) rs
unfolding packets_of sum_of
packets_length t [] p = refl
packets_length t (r ∷ rs) p =
    length-append (packet_of (fragment_of t r.off r.len) p) (packets_of t rs p)
    ∙ omega (arith, size_is (fragment_of t r.off r.len) p, packets_length t rs p)

-- what one request more adds to the packets, to the sum and to the ends
packets_snoc : (t : Template) (rs : List BlockRequest) (r : BlockRequest) (p : List ℕ)
    → packets_of t (rs ++ (r ∷ [])) p ≡ packets_of t rs p ++ packet_of (fragment_of t r.off r.len) p
unfolding packets_of
packets_snoc t [] r p = append-nil _
packets_snoc t (x ∷ rs) r p =
    ap (λ (l : List ℕ). packet_of (fragment_of t x.off x.len) p ++ l) (packets_snoc t rs r p)
    ∙ sym (append_assoc (packet_of (fragment_of t x.off x.len) p) (packets_of t rs p) _)

sum_snoc : (n : ℕ) (rs : List BlockRequest) (r : BlockRequest) → sum_of n (rs ++ (r ∷ [])) ≡ sum_of n rs + size_for n r
unfolding sum_of
sum_snoc n [] r = omega arith
sum_snoc n (x ∷ rs) r = omega (arith, sum_snoc n rs r)

ends_snoc : (n at : ℕ) (rs : List BlockRequest) (r : BlockRequest)
    → ends_from n at (rs ++ (r ∷ [])) ≡ ends_from n at rs ++ ((at + sum_of n rs + size_for n r) ∷ [])
unfolding ends_from sum_of
ends_snoc n at [] r = ap (λ (k : ℕ). k ∷ []) (omega arith)
ends_snoc n at (x ∷ rs) r =
    let there : at + size_for n x + sum_of n rs + size_for n r ≡ at + (size_for n x + sum_of n rs) + size_for n r = omega arith in
    ap (λ (l : List ℕ). (at + size_for n x) ∷ l)
    (ends_snoc n (at + size_for n x) rs r ∙ ap (λ (k : ℕ). ends_from n (at + size_for n x) rs ++ (k ∷ [])) there)

-- there is an end for each request
ends_count : (n at : ℕ) (rs : List BlockRequest) → length (ends_from n at rs) ≡ length rs
unfolding ends_from
ends_count n at [] = refl
ends_count n at (r ∷ rs) = ap suc (ends_count n (at + size_for n r) rs)

-- the sum only grows
sum_before : (n i : ℕ) (rs : List BlockRequest) → sum_of n (take i rs) ≤ sum_of n rs
unfolding sum_of
sum_before n zero rs = omega arith
sum_before n (suc i) [] = omega arith
sum_before n (suc i) (r ∷ rs) = omega (arith, sum_before n i rs)

-- a store behind what is written writes one more
written_more : (a d : List ℕ) (v : ℕ) → length a < length d → set (written a d) (length a) v ≡ written (a ++ (v ∷ [])) d
unfolding written
written_more a [] v h = absurd (not-suc-le-zero h)
written_more [] (y ∷ d) v h = refl
written_more (x ∷ a) (y ∷ d) v h = ap (λ (l : List ℕ). x ∷ l) (written_more a d v (le_of_suc-le-suc h))

-- no request, no sum
pub none_yet : (n : ℕ) (ys : List BlockRequest) → sum_of n (take 0 ys) ≡ 0
unfolding sum_of
none_yet n ys = refl

-- nothing written
pub written_none : (d : List ℕ) → written [] d ≡ d
unfolding written
written_none d = refl

-- where the call is refused, nothing is written
refused_keeps : (a : ListAnswer ℕ) (r : ListRefusal) (x o : List ℕ) → list_says {A = ℕ} (Err r) ≡ a → leaves (plainly a) x o ≡ o
refused_keeps a (Whole k) x o e = ap (λ (b : ListAnswer ℕ). leaves (plainly b) x o) (sym e)
refused_keeps a (At k i) x o e = ap (λ (b : ListAnswer ℕ). leaves (plainly b) x o) (sym e)

module _ (t : Template) (rs : List BlockRequest) (p o e : List ℕ) where
  abbrev pub end_at_turn : ℕ → ℕ
  end_at_turn i = sum_of (length p) (take i rs)

  abbrev pub out_at : ℕ → List ℕ
  out_at i = written (packets_of t (take i rs) p) o

  abbrev pub ends_at : ℕ → List ℕ
  ends_at i = written (ends_from (length p) 0 (take i rs)) e

  -- the request of turn i
  abbrev pub asked : ℕ → BlockRequest
  asked i = request_at rs i

  -- before the first turn
  pub at_first : (out_at 0 ≡ o) × (ends_at 0 ≡ e)
  unfolding packets_of ends_from
  at_first = (written_none o, written_none e)

  module _ (fits : Fits rs (length p) (length o) (length e)) where
    -- there are i requests before turn i
    taken : (i : ℕ) → i ≤ length rs → length (ends_from (length p) 0 (take i rs)) ≡ i
    taken i h = ends_count (length p) 0 (take i rs) ∙ length-take i rs ∙ omega arith

    -- the end of the last packet is in the output
    pub end_within : (i : ℕ) → end_at_turn i ≤ length o
    end_within i = omega (arith, fits.room_for, sum_before (length p) i rs)

    -- the request of turn i is behind those before
    taken_more : (i : ℕ) → i < length rs → take (i + 1) rs ≡ take i rs ++ (asked i ∷ [])
    taken_more i h = rw add-one (take-suc rs i no_request h)

    -- turn i leads from i turns to i + 1: the end,
    pub end_more : (i : ℕ) → i < length rs → end_at_turn i + size_for (length p) (asked i) ≡ end_at_turn (i + 1)
    end_more i h = sym (ap (sum_of (length p)) (taken_more i h) ∙ sum_snoc (length p) (take i rs) (asked i))

    -- .. what `put` asks,
    pub turn_asks : (i : ℕ) → i < length rs → PutAsks (asked i) i (end_at_turn i) (length p) (length o) (length e)
    turn_asks i h =
        record {
          few = fits.few;
          near = near_before rs i (omega (arith, fits.none_bad));
          room_for = omega (arith, end_more i h, end_within (i + 1));
          place_for = omega (arith, fits.places_for);
        }

    -- .. the output,
    pub out_more : (i : ℕ) → i < length rs
        → take (end_at_turn i) (out_at i) ++ written (packet_of (fragment_of t (asked i).off (asked i).len) p) (drop (end_at_turn i) (out_at i)) ≡ out_at (i + 1)
    out_more i h =
        let pk = packet_of (fragment_of t (asked i).off (asked i).len) p in
        let more : packets_of t (take (i + 1) rs) p ≡ packets_of t (take i rs) p ++ pk =
        ap (λ (l : List BlockRequest). packets_of t l p) (taken_more i h) ∙ packets_snoc t (take i rs) (asked i) p in
        written_then (packets_of t (take i rs) p) pk o (end_at_turn i) (packets_length t (take i rs) p) ∙ ap (λ (l : List ℕ). written l o) (sym more)

    -- .. and the ends
    pub ends_more : (i : ℕ) → i < length rs → set (ends_at i) i (end_at_turn i + size_for (length p) (asked i)) ≡ ends_at (i + 1)
    ends_more i h =
        let n = length p in
        let v = end_at_turn i + size_for n (asked i) in
        let at : length (ends_from n 0 (take i rs)) ≡ i = taken i (omega arith) in
        let more : ends_from n 0 (take (i + 1) rs) ≡ ends_from n 0 (take i rs) ++ (v ∷ []) =
        ap (ends_from n 0) (taken_more i h) ∙ ends_snoc n 0 (take i rs) (asked i) ∙ simp zero-add in
        ap (λ (k : ℕ). set (ends_at i) k v) (sym at)
        ∙ written_more (ends_from n 0 (take i rs)) e v (omega (arith, at, fits.places_for))
        ∙ ap (λ (l : List ℕ). written l e) (sym more)

    -- What `put` leaves in turn i, where it found what stands after i turns, is what stands after i + 1.
    pub turn_more : (i at : ℕ) (b f : List ℕ) (end : ℕ) (b' f' : List ℕ) → i < length rs → at ≡ end_at_turn i → b ≡ out_at i → f ≡ ends_at i
        → Put t (asked i) i at p b f end b' f' → (end ≡ end_at_turn (i + 1)) × (b' ≡ out_at (i + 1)) × (f' ≡ ends_at (i + 1))
    turn_more i at b f end b' f' h ea eb ef put =
        let pk = packet_of (fragment_of t (asked i).off (asked i).len) p in
        let n : ℕ = size_for (length p) (asked i) in (
          put.is_end ∙ ap (λ (a : ℕ). a + n) ea ∙ end_more i h,
          put.output ∙ ap₂ (λ (a : ℕ) (d : List ℕ). take a d ++ written pk (drop a d)) ea eb ∙ out_more i h,
          put.ends ∙ ap₂ (λ (d : List ℕ) (a : ℕ). set d i (a + n)) ef ea ∙ ends_more i h,
        )

    -- .. and it asks no more than holds there.
    pub turn_allowed : (i at : ℕ) (b f : List ℕ) → i < length rs → at ≡ end_at_turn i → length b ≡ length o → length f ≡ length e
        → PutAsks (asked i) i at (length p) (length b) (length f)
    turn_allowed i at b f h ea eb ef = rw (ea, eb, ef) (turn_asks i h)

    -- after the last
    pub at_last : (i : ℕ) → i ≡ length rs → (out_at i ≡ written (packets_of t rs p) o) × (ends_at i ≡ written (ends_from (length p) 0 rs) e)
    at_last i is =
        let all : take i rs ≡ rs = ap (λ (k : ℕ). take k rs) is ∙ take-length rs in
        (rw all refl, rw all refl)

-- ---- the call

module _ (t : Template) (rs : List BlockRequest) (p o e : List ℕ) where
  -- where it is accepted, the packets and their ends were put
  pub all_put : (k : ℕ) (o' e' : List ℕ) → gives_all k ≡ fragments_answer rs (length p) (length o) (length e)
      → (o' ≡ written (packets_of t rs p) o) × (e' ≡ written (ends_from (length p) 0 rs) e) → Fragmented t rs p o e (Ok k) o' e'
  all_put k o' e' g put =
      record {
        answer = g;
        after =
            ap₂ (λ (x y : List ℕ). (x, y)) put.0 put.1
            ∙ ap (λ (a : ListAnswer ℕ). (leaves (plainly a) (packets_of t rs p) o, leaves (plainly a) (ends_from (length p) 0 rs) e)) g;
      }

  -- where it is refused, nothing is written
  pub none_put : (r : Result ℕ ListRefusal) (x : ListRefusal) → r ≡ Err x → list_says {A = ℕ} (Err x) ≡ fragments_answer rs (length p) (length o) (length e)
      → Fragmented t rs p o e r o e
  none_put r x is g =
      let same : (a : List ℕ) (b : List ℕ) → leaves (plainly (fragments_answer rs (length p) (length o) (length e))) a b ≡ b = λ a b. refused_keeps _ x a b g in
      record {
        answer = ap (λ (y : Result ℕ ListRefusal). list_says y) is ∙ g;
        after = ap₂ (λ (x y : List ℕ). (x, y)) (sym (same (packets_of t rs p) o)) (sym (same (ends_from (length p) 0 rs) e));
      }
