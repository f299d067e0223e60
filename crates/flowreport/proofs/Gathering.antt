-- Each record's packet goes behind those before it, and its end behind theirs, so that cutting there gives the packets again.
use mathlib.Core.Path.{◌≡◌, refl, sym, ap, ap₂, subst, ◌∙◌}
use Prim.Native.Nat.{ℕ, suc, ◌+◌, ◌-◌, ◌*◌, ◌≤◌}
use native.Mathlib.Omega.{arith}
use mathlib.Core.Bool.{true, false, true≢false}
use mathlib.Core.List.{List, [], ◌∷◌, ◌++◌, append-nil}
use lib.ListN.{length, take, drop, set, length-drop}
use lib.Seq.{slice, length-take-le, take-take, take_at, drop_at, take-suc-set, append_snoc}
use borrow.Author.Tests.{le-ltb}
use Rattle.std.specs.Prelude.{Result, Ok, Err, Some, None}
use Rattle.pkt.specs.Answers.{ListAnswer, refused_whole, refused_at, gives_all, list_says}
use Rattle.pkt.specs.Written.{written}
use Rattle.pkt.specs.declared.refusal.ListRefusal.{ListRefusal}
use Rattle.pkt.specs.declared.refusal.ListRefusal.TheVariants as refusal
use Rattle.pkt.proofs.Choice.{fails}
use Rattle.pcap.specs.Read.{number}
use Rattle.ezpkt.proofs.Slices.{lent_slice}
use Rattle.reading.specs.Reading.{Next, open_at, spot_at, packet_at, step_at, more_at, past_at}
use Rattle.reading.specs.Ends.{last_from, last_of}
use Rattle.reading.specs.declared.Spot.{Spot}
use Rattle.reading.proofs.Ending.{there_found, found_there, spot_within, stops, goes_on}
use Rattle.reporting.specs.Report.{cut_at, first_wrong}
use Rattle.flowreport.specs.Gather.{packets_from, packets_of, counted, Gathers}
use Rattle.flowreport.proofs.Packets.{packets_turn, packets_end}

-- ---- ends that go up from s to the last, n

unfoldable pub Up : ℕ → List ℕ → ℕ → Type 0
Up s [] n = s ≡ n
Up s (e ∷ es) n = (s ≤ e) × Up e es n

up_most : (s : ℕ) (es : List ℕ) (n : ℕ) → Up s es n → s ≤ n
unfolding Up
up_most s [] n u = omega (arith, u)
up_most s (e ∷ es) n u = omega (arith, u.0, up_most e es n u.1)

up_more : (s : ℕ) (es : List ℕ) (n n' : ℕ) → Up s es n → n ≤ n' → Up s (es ++ n' ∷ []) n'
unfolding Up
up_more s [] n n' u h = (omega (arith, u), refl)
up_more s (e ∷ es) n n' u h = (u.0, up_more e es n n' u.1 h)

-- They are right where there are so many bytes.
up_right : (s : ℕ) (es : List ℕ) (n most : ℕ) → Up s es n → n ≤ most → first_wrong s most es ≡ length es
unfolding Up first_wrong
up_right s [] n most u h = refl
up_right s (e ∷ es) n most u h =
    let w = up_most e es n u.1 in
    simp (le-ltb e s u.0, le-ltb most e (omega arith), up_right e es n most u.1 h)

-- ---- the packets between them

-- are in the first n bytes,
cut_same : (s : ℕ) (es : List ℕ) (n : ℕ) (o o' : List ℕ) → Up s es n → take n o ≡ take n o' → cut_at s es o ≡ cut_at s es o'
unfolding Up cut_at
cut_same s [] n o o' u h = refl
cut_same s (e ∷ es) n o o' u h =
    let w = up_most e es n u.1 in
    let same : take e o ≡ take e o' = sym (take-take e n o w) ∙ ap (take e) h ∙ take-take e n o' w in
    ap₂ (λ (p : List ℕ) (ps : List (List ℕ)). drop s p ∷ ps) same (cut_same e es n o o' u.1 h)

-- and one more end is one more packet.
cut_more : (s : ℕ) (es : List ℕ) (n n' : ℕ) (o : List ℕ) → Up s es n → cut_at s (es ++ n' ∷ []) o ≡ cut_at s es o ++ slice n n' o ∷ []
unfolding Up cut_at
cut_more s [] n n' o u = ap (λ (i : ℕ). slice i n' o ∷ []) u
cut_more s (e ∷ es) n n' o u = ap (λ (ps : List (List ℕ)). slice s e o ∷ ps) (cut_more e es n n' o u.1)

-- ---- a packet p that is written behind the first n bytes

put_before : (p o : List ℕ) (n : ℕ) → n ≤ length o → take n (take n o ++ written p (drop n o)) ≡ take n o
put_before p o n h = take_at (take n o) (written p (drop n o)) n (length-take-le n o h)

put_there : (p o : List ℕ) (n : ℕ) → n ≤ length o → slice n (n + length p) (take n o ++ written p (drop n o)) ≡ p
unfolding written
put_there p o n h =
    let w : List ℕ = take n o ++ written p (drop n o) in
    let z : n + length p - n ≡ length p = omega arith in
    sym (lent_slice n (n + length p) w)
    ∙ ap₂ (λ (i : ℕ) (r : List ℕ). take i r) z (drop_at (take n o) (written p (drop n o)) n (length-take-le n o h))
    ∙ take_at p (drop (length p) (drop n o)) (length p) refl

-- the packets then, of ends with one more behind them
put_cut : (p o es : List ℕ) (n : ℕ) → n ≤ length o → Up 0 es n
    → cut_at 0 (es ++ (n + length p) ∷ []) (take n o ++ written p (drop n o)) ≡ cut_at 0 es o ++ p ∷ []
put_cut p o es n h u =
    let w : List ℕ = take n o ++ written p (drop n o) in
    cut_more 0 es n (n + length p) w u
    ∙ ap₂ (λ (ps : List (List ℕ)) (q : List ℕ). ps ++ q ∷ []) (cut_same 0 es n w o u (put_before p o n h)) (put_there p o n h)

-- ---- the loop

-- Where gathering from l is, at a place behind k records: what is in the output and the ends, and what is left from there, is the whole.
pub record Facts (l : List ℕ) (at k n : ℕ) (o e : List ℕ) : Type 0 where
  pub low : n + 16 * k ≤ at
  pub within : n + 16 * k ≤ length l
  pub up : Up 0 (take k e) n
  pub cut : cut_at 0 (take k e) o ++ packets_from (length l - k) k at l ≡ packets_of l
  pub last : last_from (length l - k) k at l ≡ last_of l

pub at_start : (l o e : List ℕ) → Facts l (open_at l) 0 0 o e
unfolding Up cut_at
at_start l o e =
    let z : length l - 0 ≡ length l = omega arith in
    record {
      low = omega arith;
      within = omega arith;
      up = refl;
      cut = ap (λ (m : ℕ). packets_from m 0 (open_at l) l) z;
      last = ap (λ (m : ℕ). last_from m 0 (open_at l) l) z;
    }

-- the record that a step found, and the place behind it
found_is : (l : List ℕ) (at k : ℕ) (s : Spot) → gives_all (Some s) ≡ step_at l at k → (more_at l at ≡ true) × (s ≡ spot_at l at k)
found_is l at k s e =
    let m = found_there l at k s (sym e) in
    let q : ◌≡◌ {A = ListAnswer Next} (gives_all (Some s)) (gives_all (Some (spot_at l at k))) = e ∙ there_found l at k m in
    (m, cc)

-- Where that record's packet lies: behind the record's header, up to the record's end.
pub record Lies (l : List ℕ) (at : ℕ) (s : Spot) : Type 0 where
  pub start : s.start ≡ at + 16
  pub within : s.start + s.len ≤ length l
  pub size : length (packet_at l s) ≡ s.len
  pub past : past_at l at ≡ s.start + s.len

pub lies : (l : List ℕ) (at k : ℕ) (s : Spot) → gives_all (Some s) ≡ step_at l at k → Lies l at s
lies l at k s e =
    let f = found_is l at k s e in
    let w = spot_within l at f.0 in
    subst (Lies l at) (sym f.1)
    (record {
      start = refl;
      within = w.0;
      size = length-take-le (number 4 8 (drop at l)) (drop (at + 16) l) (omega (arith, w.0, length-drop (at + 16) l));
      past = w.1;
    })

-- the packet as it is lent
pub lent_packet : (l : List ℕ) (s : Spot) → take (s.start + s.len - s.start) (drop s.start l) ≡ packet_at l s
lent_packet l s = let z : s.start + s.len - s.start ≡ s.len = omega arith in ap (λ (i : ℕ). take i (drop s.start l)) z

pub at_next : (l o e : List ℕ) (at k n n' : ℕ) (s : Spot) (o' : List ℕ) → length l ≤ length o → length l ≤ 16 * length e → gives_all (Some s) ≡ step_at l at k
    → n' ≡ n + length (packet_at l s) → o' ≡ take n o ++ written (packet_at l s) (drop n o) → Facts l at k n o e
    → Facts l (s.start + s.len) (k + 1) n' o' (set e k n')
at_next l o e at k n n' s o' room places is size puts f =
    let p : List ℕ = packet_at l s in
    let y = lies l at k s is in
    let found = found_is l at k s is in
    let past : ℕ = s.start + s.len in
    let low = f.low in
    let one : k + 1 ≡ suc k = omega arith in
    let turns : length l - k ≡ suc (length l - (k + 1)) = omega (arith, y.start, y.within, low) in
    let front : take (k + 1) (set e k n') ≡ take k e ++ n' ∷ [] =
    ap (λ (i : ℕ). take i (set e k n')) one ∙ take-suc-set e k n' (omega (arith, y.start, y.within, low)) in
    let left : List (List ℕ) = packets_from (length l - (k + 1)) (k + 1) past l in
    let here : packets_from (length l - k) k at l ≡ p ∷ left =
    ap (λ (m : ℕ). packets_from m k at l) turns
    ∙ packets_turn (length l - (k + 1)) k at l found.0
    ∙ ap₂ (λ (q : List ℕ) (i : ℕ). q ∷ packets_from (length l - (k + 1)) i (past_at l at) l) (ap (packet_at l) (sym found.1)) (sym one)
    ∙ ap (λ (i : ℕ). p ∷ packets_from (length l - (k + 1)) (k + 1) i l) y.past in
    record {
      low = omega (arith, y.start, y.size, size, low);
      within = omega (arith, y.start, y.within, y.size, size, low);
      up = subst (λ (es : List ℕ). Up 0 es n') (sym front) (up_more 0 (take k e) n n' f.up (omega arith));
      cut =
          ap₂ (λ (es r : List ℕ). cut_at 0 es r ++ left) (front ∙ ap (λ (i : ℕ). take k e ++ i ∷ []) size) puts
          ∙ ap (λ (ps : List (List ℕ)). ps ++ left) (put_cut p o (take k e) n (omega (arith, f.within, room)) f.up)
          ∙ append_snoc (cut_at 0 (take k e) o) p left
          ∙ ap (λ (ps : List (List ℕ)). cut_at 0 (take k e) o ++ ps) (sym here)
          ∙ f.cut;
      last =
          ap₂ (λ (i j : ℕ). last_from (length l - (k + 1)) i j l) one (sym y.past)
          ∙ sym (ap (λ (m : ℕ). last_from m k at l) turns ∙ goes_on (length l - (k + 1)) k at l found.0)
          ∙ f.last;
    }

-- a step that found no record
none_there : (l : List ℕ) (at k : ℕ) → gives_all None ≡ step_at l at k → more_at l at ≡ false
none_there l at k e = fails _ (λ m. true≢false (cc (e ∙ there_found l at k m)))

refused_there : (l : List ℕ) (at k : ℕ) (r : ListRefusal) → list_says {A = Next} (Err r) ≡ step_at l at k → more_at l at ≡ false
refused_there l at k (refusal.Whole x) e = fails _ (λ m. true≢false (cc (e ∙ there_found l at k m)))
refused_there l at k (refusal.At x i) e = fails _ (λ m. true≢false (cc (e ∙ there_found l at k m)))

-- what is answered then
refused_counts : (a : ListAnswer Next) (k : ℕ) (r : ListRefusal) → list_says {A = Next} (Err r) ≡ a → list_says (Err r) ≡ counted a k
refused_counts (refused_whole n) k (refusal.Whole x) e = ap refused_whole (cc)
refused_counts (refused_whole n) k (refusal.At x i) e = cc
refused_counts (refused_at n j) k (refusal.Whole x) e = cc
refused_counts (refused_at n j) k (refusal.At x i) e = ap₂ refused_at (cc) (cc)
refused_counts (gives_all a) k (refusal.Whole x) e = cc
refused_counts (gives_all a) k (refusal.At x i) e = cc

module _ (l o e : List ℕ) (at k n : ℕ) (room : length l ≤ length o) (places : length l ≤ 16 * length e) (f : Facts l at k n o e) where
  pub few : k ≤ length e
  few = omega (arith, f.within)

  ended : more_at l at ≡ false → (r : Result ℕ ListRefusal) → list_says r ≡ counted (last_of l) k → Gathers l r o e
  ended h r says =
      record {
        packets = k;
        within = few;
        cut =
            sym (ap (λ (ps : List (List ℕ)). cut_at 0 (take k e) o ++ ps) (packets_end (length l - k) k at l h) ∙ append-nil (cut_at 0 (take k e) o))
            ∙ f.cut;
        right =
            up_right 0 (take k e) n (length o) f.up (omega (arith, f.within))
            ∙ length-take-le k e few;
        last = says;
      }

  last_is : more_at l at ≡ false → step_at l at k ≡ last_of l
  last_is h = sym (stops (length l - k) k at l h) ∙ f.last

  pub at_end : gives_all None ≡ step_at l at k → Gathers l (Ok k) o e
  at_end is = let h = none_there l at k is in ended h (Ok k) (ap (λ (a : ListAnswer Next). counted a k) (is ∙ last_is h))

  pub at_refusal : (r : ListRefusal) → list_says {A = Next} (Err r) ≡ step_at l at k → Gathers l (Err r) o e
  at_refusal r is = let h = refused_there l at k r is in ended h (Err r) (refused_counts (last_of l) k r (is ∙ last_is h))
