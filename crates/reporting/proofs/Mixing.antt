-- A packet that is not the flow's own changes no side; failed packets and those of other flows are added up, in whatever order.
use Rattle.std.proofs.Common.{◌≡◌, ℕ, ◌+◌, List, [], ◌∷◌, sym, refl, ap, ◌∙◌, subst, arith}
use Rattle.ezpkt.specs.declared.SocketAddrV4.{SocketAddrV4}
use Rattle.tcp4.specs.declared.Side.TheVariants.{Client, Server}
use Rattle.reporting.specs.Sides.{side_after}
use Rattle.reporting.specs.Packets.{class_of}
use Rattle.reporting.specs.Report.{cut_at, nothing_yet, report_after, report_from, report_of}
use Rattle.reporting.specs.Mixing.{kept_by, flow_packets, Interleaved, neither, left, right, SameSides, ReportsUnmixed}
use Rattle.reporting.proofs.Totals.{reported_is}
use Rattle.reporting.specs.declared.Tally.{Tally}
use Rattle.reporting.specs.declared.Class.{Class}
use Rattle.reporting.specs.declared.Class.TheVariants.{Failed, Other, Own}
use Rattle.reporting.specs.declared.Report.{Report}

-- ---- the sides

-- what the sides are led to depends on them and on the class alone
same_after : (r q : Report) (k : Class) → SameSides r q → SameSides (report_after r k) (report_after q k)
unfolding report_after
same_after r q Failed e = e
same_after r q Other e = e
same_after r q (Own Client s) e = (ap (λ (t : Tally). side_after t s) e.0, e.1)
same_after r q (Own Server s) e = (e.0, ap (λ (t : Tally). side_after t s) e.1)

same_from : (cl sv : SocketAddrV4) (r q : Report) (ps : List (List ℕ)) → SameSides r q → SameSides (report_from cl sv r ps) (report_from cl sv q ps)
unfolding report_from
same_from cl sv r q [] e = e
same_from cl sv r q (p ∷ ps) e = same_from cl sv (report_after r (class_of cl sv p)) (report_after q (class_of cl sv p)) ps (same_after r q (class_of cl sv p) e)

-- A packet is kept, or changes no side.
own_from : (cl sv : SocketAddrV4) (r q : Report) (ps : List (List ℕ)) → SameSides r q → SameSides (report_from cl sv r ps) (report_from cl sv q (flow_packets cl sv ps))
unfolding report_from flow_packets report_after
own_from cl sv r q [] e = e
own_from cl sv r q (p ∷ ps) e = go (class_of cl sv p) refl (λ r' q' e'. own_from cl sv r' q' ps e')
  where
    go : (k : Class) → class_of cl sv p ≡ k → ((r' q' : Report) → SameSides r' q' → SameSides (report_from cl sv r' ps) (report_from cl sv q' (flow_packets cl sv ps)))
        → SameSides (report_from cl sv (report_after r k) ps) (report_from cl sv q (kept_by k p (flow_packets cl sv ps)))
    go Failed c again = again (report_after r Failed) q e
    go Other c again = again (report_after r Other) q e
    go (Own w s) c again =
        subst (λ (k : Class). SameSides (report_from cl sv (report_after r (Own w s)) ps) (report_from cl sv (report_after q k) (flow_packets cl sv ps))) (sym c)
        (again (report_after r (Own w s)) (report_after q (Own w s)) (same_after r q (Own w s) e))

own_packets : (cl sv : SocketAddrV4) (ps : List (List ℕ)) → SameSides (report_of cl sv ps) (report_of cl sv (flow_packets cl sv ps))
own_packets cl sv ps = own_from cl sv nothing_yet nothing_yet ps (refl, refl)

same_own : (cl sv : SocketAddrV4) (ps qs : List (List ℕ)) → flow_packets cl sv ps ≡ flow_packets cl sv qs → SameSides (report_of cl sv ps) (report_of cl sv qs)
same_own cl sv ps qs e =
    let a = own_packets cl sv ps in
    let b = own_packets cl sv qs in (
      a.0 ∙ ap (λ (l : List (List ℕ)). (report_of cl sv l).cl) e ∙ sym b.0,
      a.1 ∙ ap (λ (l : List (List ℕ)). (report_of cl sv l).sv) e ∙ sym b.1,
    )

-- ---- mixed with packets of which none is the flow's

-- where nothing is kept, the packet is not, and none behind it
none_kept : (k : Class) (p : List ℕ) (ps : List (List ℕ)) → kept_by k p ps ≡ [] → (ps ≡ []) × ((qs : List (List ℕ)) → kept_by k p qs ≡ qs)
none_kept Failed p ps e = (e, λ qs. refl)
none_kept Other p ps e = (e, λ qs. refl)
none_kept (Own w s) p ps e = let z : ◌≡◌ {A = ℕ} 0 1 = cc in absurd (omega arith)

only_own : (cl sv : SocketAddrV4) (ps qs rs : List (List ℕ)) → Interleaved ps qs rs → flow_packets cl sv qs ≡ [] → flow_packets cl sv rs ≡ flow_packets cl sv ps
unfolding flow_packets
only_own cl sv _ _ _ neither e = refl
only_own cl sv _ _ _ (left x ps qs rs m) e = ap (kept_by (class_of cl sv x) x) (only_own cl sv ps qs rs m e)
only_own cl sv _ _ _ (right y ps qs rs m) e =
    let n = none_kept (class_of cl sv y) y (flow_packets cl sv qs) e in
    n.1 (flow_packets cl sv rs) ∙ only_own cl sv ps qs rs m n.0

mixed : (cl sv : SocketAddrV4) (ps qs rs : List (List ℕ)) → Interleaved ps qs rs → flow_packets cl sv qs ≡ [] → SameSides (report_of cl sv rs) (report_of cl sv ps)
mixed cl sv ps qs rs m e = same_own cl sv rs ps (only_own cl sv ps qs rs m e)

-- ---- the other two numbers

if_failed : Class → ℕ
if_failed Failed = 1
if_failed Other = 0
if_failed (Own w s) = 0

if_other : Class → ℕ
if_other Failed = 0
if_other Other = 1
if_other (Own w s) = 0

-- what packets add up to, of a number that each class has
sum_over : (Class → ℕ) → SocketAddrV4 → SocketAddrV4 → List (List ℕ) → ℕ
sum_over k cl sv [] = 0
sum_over k cl sv (p ∷ ps) = k (class_of cl sv p) + sum_over k cl sv ps

-- A number of the report that each class adds so much to is the sum.
module _ (num : Report → ℕ) (k : Class → ℕ) (one : (r : Report) (c : Class) → num (report_after r c) ≡ num r + k c) (cl sv : SocketAddrV4) where
  summed : (r : Report) (ps : List (List ℕ)) → num (report_from cl sv r ps) ≡ num r + sum_over k cl sv ps
  unfolding report_from sum_over
  summed r [] = omega arith
  summed r (p ∷ ps) = omega (arith, summed (report_after r (class_of cl sv p)) ps, one r (class_of cl sv p))

  shared : (ps qs rs : List (List ℕ)) → Interleaved ps qs rs → sum_over k cl sv rs ≡ sum_over k cl sv ps + sum_over k cl sv qs
  unfolding sum_over
  shared _ _ _ neither = refl
  shared _ _ _ (left x ps qs rs m) = omega (arith, shared ps qs rs m)
  shared _ _ _ (right y ps qs rs m) = omega (arith, shared ps qs rs m)

  same_number : (ps qs rs rs' : List (List ℕ)) → Interleaved ps qs rs → Interleaved ps qs rs' → num (report_of cl sv rs) ≡ num (report_of cl sv rs')
  same_number ps qs rs rs' m m' = omega (arith, summed nothing_yet rs, summed nothing_yet rs', shared ps qs rs m, shared ps qs rs' m')

one_failed : (r : Report) (c : Class) → (report_after r c).failed ≡ r.failed + if_failed c
unfolding report_after if_failed
one_failed r Failed = refl
one_failed r Other = omega arith
one_failed r (Own Client s) = omega arith
one_failed r (Own Server s) = omega arith

one_other : (r : Report) (c : Class) → (report_after r c).others ≡ r.others + if_other c
unfolding report_after if_other
one_other r Failed = omega arith
one_other r Other = refl
one_other r (Own Client s) = omega arith
one_other r (Own Server s) = omega arith

one_report : (cl sv : SocketAddrV4) (ps qs rs rs' : List (List ℕ)) → Interleaved ps qs rs → Interleaved ps qs rs' → flow_packets cl sv qs ≡ [] → report_of cl sv rs ≡ report_of cl sv rs'
one_report cl sv ps qs rs rs' m m' e =
    let sides = same_own cl sv rs rs' (only_own cl sv ps qs rs m e ∙ sym (only_own cl sv ps qs rs' m' e)) in
    let failed = same_number (λ r. r.failed) if_failed one_failed cl sv ps qs rs rs' m m' in
    let others = same_number (λ r. r.others) if_other one_other cl sv ps qs rs rs' m m' in
    λ i. record { cl = sides.0 i; sv = sides.1 i; failed = failed i; others = others i }

-- ---- two flows

turned : {A : Type 0} (xs ys zs : List A) → Interleaved xs ys zs → Interleaved ys xs zs
turned _ _ _ neither = neither
turned _ _ _ (left x xs ys zs m) = right x ys xs zs (turned xs ys zs m)
turned _ _ _ (right y xs ys zs m) = left y ys xs zs (turned xs ys zs m)

pub reports_unmixed : ReportsUnmixed
reports_unmixed =
    record {
      own_packets = own_packets;
      same_own = same_own;
      mixed = mixed;
      one_report = one_report;
      two_flows = λ cl sv cl' sv' ps qs e e' l es m fs x y r r' q q' a a' b b'. (
        reported_is l es cl sv r a ∙ one_report cl sv ps qs (cut_at 0 es l) (cut_at 0 fs m) x y e ∙ sym (reported_is m fs cl sv r' a'),
        reported_is l es cl' sv' q b ∙ one_report cl' sv' qs ps (cut_at 0 es l) (cut_at 0 fs m) (turned ps qs _ x) (turned ps qs _ y) e' ∙ sym (reported_is m fs cl' sv' q' b'),
      );
    }
