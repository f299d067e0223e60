-- Each packet counts once, and each segment arrives in one way; the rest is arithmetic.
use Rattle.std.proofs.Common.{◌≡◌, ℕ, zero, suc, ◌+◌, ◌-◌, ◌<◌, Bool, true, false, cond, ◌||◌, ltb, List, [], ◌∷◌, length, get_or, take, drop, ℤ, pos, negsuc, sym, refl, ap, ◌∙◌, subst, arith, ltb-false, ltb-true, le-ltb, lt-ltb}
use Rattle.std.specs.Prelude.{Ok, Err}
use Rattle.pkt.specs.Answers.{refused_whole, refused_at, gives_all}
use Rattle.pkt.specs.Fields.{Bytes}
use Rattle.pkt.specs.Refusal.{number_of}
use Rattle.pkt.specs.declared.refusal.Refusal.{Refusal}
use Rattle.pkt.specs.declared.refusal.ListRefusal.TheVariants.{At}
use Rattle.pkt.proofs.Choice.{pick_yes, pick_no}
use Rattle.ezpkt.specs.declared.SocketAddrV4.{SocketAddrV4}
use Rattle.tcp4.specs.declared.Side.TheVariants.{Client, Server}
use Rattle.inspect.proofs.Numbers.{take_bytes, drop_bytes}
use Rattle.reporting.specs.Sides.{cycle, half_cycle, ahead, distance, arrival_of, tallied, Few}
use Rattle.reporting.specs.Packets.{class_of}
use Rattle.reporting.specs.Report.{cut_at, first_wrong, most_packets, nothing_yet, report_after, report_from, report_of, Reports}
use Rattle.reporting.specs.Totals.{Apart, up, down, AllArrive, is_wrong, ReportTotals}
use Rattle.reporting.proofs.Filling.{class_sized, Filled, filled_none, filled_after}
use Rattle.reporting.specs.declared.Tally.{Tally}
use Rattle.reporting.specs.declared.Segment.{Segment}
use Rattle.reporting.specs.declared.Arrival.{Arrival}
use Rattle.reporting.specs.declared.Arrival.TheVariants.{Expected, Early, Late}
use Rattle.reporting.specs.declared.Class.{Class}
use Rattle.reporting.specs.declared.Class.TheVariants.{Failed, Other, Own}
use Rattle.reporting.specs.declared.Report.{Report}

-- ---- the distance

distance_is : (from to : ℕ) → from < cycle → to < cycle → Apart from to (distance from to)
distance_is from to f t = go (ltb (ahead from to) half_cycle) refl
  where
    go : (x : Bool) → ltb (ahead from to) half_cycle ≡ x → Apart from to (cond x (pos (ahead from to)) (negsuc (cycle - 1 - ahead from to)))
    go true e = up (ahead from to) (ltb-true _ _ e) (omega arith)
    go false e = let far = ltb-false (ahead from to) half_cycle e in down (cycle - 1 - ahead from to) (omega arith) (omega arith)

distance_only : (from to : ℕ) (d : ℤ) → from < cycle → to < cycle → Apart from to d → d ≡ distance from to
distance_only from to _ f t (up n h e) =
    let a : ahead from to ≡ n = omega arith in
    sym (pick_yes (pos (ahead from to)) (negsuc (cycle - 1 - ahead from to)) (lt-ltb (ahead from to) half_cycle (omega arith)) ∙ ap pos a)
distance_only from to _ f t (down n h e) =
    let a : cycle - 1 - ahead from to ≡ n = omega arith in
    sym (pick_no (pos (ahead from to)) (negsuc (cycle - 1 - ahead from to)) (le-ltb (ahead from to) half_cycle (omega arith)) ∙ ap negsuc a)

-- ---- the classes

abbrev all_of : Report → ℕ
all_of r = r.cl.segments + r.sv.segments + r.failed + r.others

one_more : (r : Report) (k : Class) → all_of (report_after r k) ≡ suc (all_of r)
unfolding report_after tallied
one_more r Failed = omega arith
one_more r Other = omega arith
one_more r (Own Client s) = omega arith
one_more r (Own Server s) = omega arith

all_counted : (cl sv : SocketAddrV4) (r : Report) (ps : List (List ℕ)) → all_of (report_from cl sv r ps) ≡ all_of r + length ps
unfolding report_from
all_counted cl sv r [] = omega arith
all_counted cl sv r (p ∷ ps) = omega (arith, all_counted cl sv (report_after r (class_of cl sv p)) ps, one_more r (class_of cl sv p))

counted : (cl sv : SocketAddrV4) (ps : List (List ℕ)) (r : Report) → r ≡ report_of cl sv ps → all_of r ≡ length ps
counted cl sv ps r e = ap all_of e ∙ omega (arith, all_counted cl sv nothing_yet ps)

cut_length : (at : ℕ) (es l : List ℕ) → length (cut_at at es l) ≡ length es
unfolding cut_at
cut_length at [] l = refl
cut_length at (e ∷ es) l = ap suc (cut_length e es l)

-- what an accepted call reports
pub reported_is : (l es : List ℕ) (cl sv : SocketAddrV4) (r : Report) → Reports l es cl sv (Ok r) → r ≡ report_of cl sv (cut_at 0 es l)
reported_is l es cl sv r e = go (ltb most_packets (length es)) (ltb (first_wrong 0 (length l) es) (length es)) e
  where
    go : (x y : Bool) → gives_all r ≡ cond x (refused_whole 26) (cond y (refused_at 25 (first_wrong 0 (length l) es)) (gives_all (report_of cl sv (cut_at 0 es l)))) → r ≡ report_of cl sv (cut_at 0 es l)
    go true y q = let z : ◌≡◌ {A = ℕ} 0 1 = cc in absurd (omega arith)
    go false true q = let z : ◌≡◌ {A = ℕ} 0 1 = cc in absurd (omega arith)
    go false false q = cc

-- ---- the arrivals

one_arrives : (t : Tally) (s : Segment) (a : Arrival) → AllArrive t → AllArrive (tallied t s a)
unfolding tallied
one_arrives t s Expected h = omega arith
one_arrives t s Early h = omega arith
one_arrives t s Late h = omega arith

both_arrive : (r : Report) (k : Class) → AllArrive r.cl × AllArrive r.sv → AllArrive (report_after r k).cl × AllArrive (report_after r k).sv
unfolding report_after
both_arrive r Failed h = h
both_arrive r Other h = h
both_arrive r (Own Client s) h = (one_arrives r.cl s (arrival_of r.cl s) h.0, h.1)
both_arrive r (Own Server s) h = (h.0, one_arrives r.sv s (arrival_of r.sv s) h.1)

all_arrive : (cl sv : SocketAddrV4) (r : Report) (ps : List (List ℕ)) → AllArrive r.cl × AllArrive r.sv
    → AllArrive (report_from cl sv r ps).cl × AllArrive (report_from cl sv r ps).sv
unfolding report_from
all_arrive cl sv r [] h = h
all_arrive cl sv r (p ∷ ps) h = all_arrive cl sv (report_after r (class_of cl sv p)) ps (both_arrive r (class_of cl sv p) h)

-- ---- how many

all_filled : (l : List ℕ) (cl sv : SocketAddrV4) (k at : ℕ) (es : List ℕ) (r : Report) → Bytes l → Filled k r → Filled (length es + k) (report_from cl sv r (cut_at at es l))
unfolding report_from cut_at
all_filled l cl sv k at [] r b f = let z : k ≡ 0 + k = omega arith in subst (λ (j : ℕ). Filled j r) z f
all_filled l cl sv k at (e ∷ es) r b f =
    let p = drop at (take e l) in
    let n : length es + suc k ≡ suc (length es) + k = omega arith in
    subst (λ (j : ℕ). Filled j (report_from cl sv (report_after r (class_of cl sv p)) (cut_at e es l))) n
    (all_filled l cl sv (suc k) e es (report_after r (class_of cl sv p)) b (filled_after k r (class_of cl sv p) f (class_sized cl sv p (drop_bytes at (take e l) (take_bytes e l b)))))

few : (l es : List ℕ) (cl sv : SocketAddrV4) (r : Report) → Bytes l → Reports l es cl sv (Ok r) → Few (length es) r.cl × Few (length es) r.sv
few l es cl sv r b e =
    let n : length es + 0 ≡ length es = omega arith in
    let f = subst (λ (j : ℕ). Filled j r) n (subst (Filled (length es + 0)) (sym (reported_is l es cl sv r e)) (all_filled l cl sv 0 0 es nothing_yet b filled_none)) in
    (f.cl, f.sv)

-- ---- the first end that is wrong

abbrev wrong_from : ℕ → ℕ → List ℕ → ℕ → Bool
wrong_from at n es i = ltb (get_or es i 0) (get_or (at ∷ es) i 0) || ltb n (get_or es i 0)

record First (at n : ℕ) (es : List ℕ) (i : ℕ) : Type 0 where
  pub here : wrong_from at n es i ≡ true
  pub before : (j : ℕ) → j < i → wrong_from at n es j ≡ false

first_is : (at n : ℕ) (es : List ℕ) → first_wrong at n es < length es → First at n es (first_wrong at n es)
unfolding first_wrong
first_is at n [] h = absurd (omega arith)
first_is at n (e ∷ es) h = go (ltb e at || ltb n e) refl h (first_is e n es)
  where
    go : (x : Bool) → (ltb e at || ltb n e) ≡ x → cond x 0 (suc (first_wrong e n es)) < suc (length es) → (first_wrong e n es < length es → First e n es (first_wrong e n es))
        → First at n (e ∷ es) (cond x 0 (suc (first_wrong e n es)))
    go true q h again = record { here = q; before = λ j g. absurd (omega arith) }
    go false q h again =
        let f = again (omega arith) in
        record { here = f.here; before = earlier f }
      where
        earlier : First e n es (first_wrong e n es) → (j : ℕ) → j < suc (first_wrong e n es) → wrong_from at n (e ∷ es) j ≡ false
        earlier f zero g = q
        earlier f (suc j) g = f.before j (omega arith)

first_index : (l es : List ℕ) (cl sv : SocketAddrV4) (r : Refusal) (i : ℕ) → Reports l es cl sv (Err (At r i))
    → (number_of r ≡ 25) × (i < length es) × (is_wrong (length l) es i ≡ true) × ((j : ℕ) → j < i → is_wrong (length l) es j ≡ false)
first_index l es cl sv r i e = go (ltb most_packets (length es)) (ltb (first_wrong 0 (length l) es) (length es)) refl e
  where
    at_index : (k : ℕ) → i ≡ k → k ≡ first_wrong 0 (length l) es → k < length es
        → (i < length es) × (is_wrong (length l) es i ≡ true) × ((j : ℕ) → j < i → is_wrong (length l) es j ≡ false)
    at_index k a b h =
        let g : first_wrong 0 (length l) es < length es = omega arith in
        let f = subst (First 0 (length l) es) (sym (a ∙ b)) (first_is 0 (length l) es g) in
        (omega arith, f.here, f.before)

    go : (x y : Bool) → ltb (first_wrong 0 (length l) es) (length es) ≡ y
        → refused_at (number_of r) i ≡ cond x (refused_whole 26) (cond y (refused_at 25 (first_wrong 0 (length l) es)) (gives_all (report_of cl sv (cut_at 0 es l))))
        → (number_of r ≡ 25) × (i < length es) × (is_wrong (length l) es i ≡ true) × ((j : ℕ) → j < i → is_wrong (length l) es j ≡ false)
    go true y t q = let z : ◌≡◌ {A = ℕ} 0 1 = cc in absurd (omega arith)
    go false false t q = let z : ◌≡◌ {A = ℕ} 0 1 = cc in absurd (omega arith)
    go false true t q =
        let a : number_of r ≡ 25 = cc in
        let b : i ≡ first_wrong 0 (length l) es = cc in
        let f = at_index (first_wrong 0 (length l) es) b refl (ltb-true _ _ t) in
        (a, f.0, f.1, f.2)

pub report_totals : ReportTotals
report_totals =
    record {
      distance_is = distance_is;
      distance_only = distance_only;
      classes = counted;
      given = λ l es cl sv r e. counted cl sv (cut_at 0 es l) r (reported_is l es cl sv r e) ∙ cut_length 0 es l;
      arrivals = λ cl sv ps. all_arrive cl sv nothing_yet ps (refl, refl);
      few = few;
      first_index = first_index;
    }
