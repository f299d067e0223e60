-- What the planner's loop writes: the list after k stores, and that the last one leaves the plan.
use mathlib.Core.Path.{◌≡◌, refl, sym, ap, ap₂, ◌∙◌, subst}
use mathlib.Core.Logic.{◌⊎◌, inl, inr}
use mathlib.Core.Bool.{Bool, true, false}
use mathlib.Core.List.{List, [], ◌∷◌, ◌++◌, append_assoc, append-nil}
use Prim.Native.Nat.{ℕ, zero, suc, ◌+◌, ◌-◌, ◌*◌, ◌%◌, ◌≤◌, ◌<◌}
use native.Mathlib.Nat.{not-suc-le-zero, le_of_suc-le-suc, zero-mul, mul-one, mul_left_comm, mul-le-mul_left, mul-le-mul_right, suc-mul, mod-eq_of_lt}
use native.Mathlib.Decide.{dec_le}
use native.Mathlib.Numerals.{add-one}
use native.Mathlib.Omega.{arith}
use lib.ListN.{length, set, length-append}
use lib.Dec.{ltb, leb}
use borrow.Author.Tests.{ltb-false, leb-true}
use Rattle.pkt.specs.Answers.{Answer, refused, gives, says, mapped, most_ip}
use Rattle.pkt.specs.Refusal.{number_of}
use Rattle.pkt.specs.declared.refusal.Refusal.{Refusal}
use Rattle.std.specs.Prelude.{Result, Ok, Err}
use Rattle.pkt.proofs.Choice.{and_both, or_cases}
use Rattle.pieces.specs.declared.BlockRequest.{BlockRequest}
use Rattle.planner.specs.declared.Job.{Job}
use Rattle.planner.specs.Cutting.{blocks_in, piece_count, length_at, requests_from, planned}
use Rattle.planner.proofs.Counting.{count_one, begins_within}
use Rattle.planner.specs.Steps.{nth_of, firsts}
use Rattle.planner.specs.Answers.{can_plan, plan_answer, job_for, list_after, Plans}
use Rattle.pkt.specs.Written.{over}

-- ---- a list that is written from its front, one element after the other
module _ {A : Type 0} where
  -- a store behind what is written writes one more
  over_more : (a d : List A) (v : A) → length a < length d → set (over a d) (length a) v ≡ over (a ++ (v ∷ [])) d
  over_more a [] v h = absurd (not-suc-le-zero h)
  over_more [] (y ∷ d) v h = refl
  over_more (x ∷ a) (y ∷ d) v h = ap (λ (l : List A). x ∷ l) (over_more a d v (le_of_suc-le-suc h))

-- ---- the list after k stores
firsts_length : (j : Job) (k : ℕ) → length (firsts j k) ≡ k
firsts_length j zero = refl
firsts_length j (suc k) = simp (length-append, firsts_length j k) (omega arith)

abbrev pub filled : Job → List BlockRequest → ℕ → List BlockRequest
filled j ys k = over (firsts j k) ys

pub filled_more : (j : Job) (ys l : List BlockRequest) (k : ℕ) (r : BlockRequest) → k < length ys → l ≡ filled j ys k → r ≡ nth_of j k
    → set l k r ≡ filled j ys (k + 1)
filled_more j ys l k r h el er =
    ap₂ (λ (z : List BlockRequest) (x : BlockRequest). set z k x) el er
    ∙ ap (λ (i : ℕ). set (filled j ys k) i (nth_of j k)) (sym (firsts_length j k))
    ∙ over_more (firsts j k) ys (nth_of j k) (subst (λ (i : ℕ). i < length ys) (sym (firsts_length j k)) h)
    ∙ ap (filled j ys) (sym (add-one k))

-- ---- how many pieces there are
-- a link for more than one piece has room for a block, and less than the payload
many_room : (n m : ℕ) → can_plan n m ≡ true → 1 < piece_count n m → (28 ≤ m) × (m - 20 < n)
many_room n m can more = go (dec_le n (m - 20))
  where
    go : Dec (n ≤ m - 20) → (28 ≤ m) × (m - 20 < n)
    go (yes few) = absurd (omega (arith, count_one n m few))
    go (no many) =
        let p = and_both (leb 20 m) _ can in
        let l : m - 20 < n = omega arith in
        (by_or l (or_cases (leb n (m - 20)) (leb 28 m) p.1), l)
      where
        by_or : m - 20 < n → (leb n (m - 20) ≡ true) ⊎ (leb 28 m ≡ true) → 28 ≤ m
        by_or l (inl e) = let few = leb-true n (m - 20) e in absurd (omega arith)
        by_or l (inr e) = leb-true 28 m e

-- ---- the k-th request
small : (k c b n : ℕ) → 1 ≤ b → k < c → (c - 1) * (8 * b) ≤ n → n ≤ 65515 → (k < 8192) × (k * b < 65536)
small k c b n some below inside most =
    let h : k ≤ c - 1 = omega arith in
    let e : k * (8 * b) ≡ 8 * (k * b) = mul_left_comm k 8 b in
    let w : 8 * (k * b) ≤ n = omega (arith, mul-le-mul_right (8 * b) h) in
    let l : k ≤ k * b = omega (arith, mul-one k, mul-le-mul_left k some) in
    (omega arith, omega arith)

off_is : (n m k : ℕ) → n ≤ most_ip → can_plan n m ≡ true → k < piece_count n m → k % 8192 * (blocks_in m % 65536) % 65536 ≡ k * blocks_in m
off_is n m zero few can below = simp (zero-mul, zero-mul)
off_is n m (suc k) few can below =
    let r = many_room n m can (omega arith) in
    let b : blocks_in m < 65536 = omega arith in
    let s = small (suc k) (piece_count n m) (blocks_in m) n (omega arith) below (begins_within n m) few in
    simp (mod-eq_of_lt b, mod-eq_of_lt s.0, mod-eq_of_lt s.1)

len_is : (n m behind off : ℕ) → n ≤ most_ip → can_plan n m ≡ true → behind < piece_count n m
    → length_at (blocks_in m % 65536) behind off n % 65536 ≡ length_at (blocks_in m) behind off n
len_is n m zero off few can below = omega arith
len_is n m (suc behind) off few can below =
    let r = many_room n m can (omega arith) in
    omega arith

nth_is : (j : Job) (n m k behind : ℕ) → n ≤ most_ip → can_plan n m ≡ true → j.count ≡ piece_count n m → j.n ≡ n → j.blocks ≡ blocks_in m % 65536
    → k + suc behind ≡ piece_count n m
    → nth_of j k ≡ record { off = k * blocks_in m; len = length_at (blocks_in m) behind (k * blocks_in m) n }
nth_is j n m k behind few can count same blocks at =
    let o = off_is n m k few can (omega arith) in
    let l = len_is n m behind (k * blocks_in m) few can (omega arith) in
    let b : piece_count n m - 1 - k ≡ behind = omega arith in
    simp (count, same, blocks, b, o, l)

-- the requests from the k-th on
left_are : (j : Job) (n m k d : ℕ) → n ≤ most_ip → can_plan n m ≡ true → j.count ≡ piece_count n m → j.n ≡ n → j.blocks ≡ blocks_in m % 65536
    → k + d ≡ piece_count n m → firsts j k ++ requests_from n (blocks_in m) d (k * blocks_in m) ≡ firsts j (k + d)
unfolding requests_from
left_are j n m k zero few can count same blocks at =
    let e : k ≡ k + 0 = omega arith in
    append-nil _ ∙ ap (firsts j) e
left_are j n m k (suc d) few can count same blocks at =
    let e : suc k + d ≡ k + suc d = omega arith in
    ap (λ (r : BlockRequest). firsts j k ++ (r ∷ requests_from n (blocks_in m) d (k * blocks_in m + blocks_in m))) (sym (nth_is j n m k d few can count same blocks at))
    ∙ sym (append_assoc (firsts j k) (nth_of j k ∷ []) _)
    ∙ ap (λ (o : ℕ). firsts j (suc k) ++ requests_from n (blocks_in m) d o) (sym (suc-mul k (blocks_in m)))
    ∙ left_are j n m (suc k) d few can count same blocks (omega arith)
    ∙ ap (firsts j) e

firsts_are : (j : Job) (n m : ℕ) → n ≤ most_ip → can_plan n m ≡ true → j.count ≡ piece_count n m → j.n ≡ n → j.blocks ≡ blocks_in m % 65536
    → firsts j (piece_count n m) ≡ planned n m
firsts_are j n m few can count same blocks =
    let e : piece_count n m ≡ 0 + piece_count n m = omega arith in
    ap (firsts j) e ∙ sym (left_are j n m 0 (piece_count n m) few can count same blocks (sym e)) ∙ ap (requests_from n (blocks_in m) (piece_count n m)) (zero-mul (blocks_in m))

-- ---- what is decided
abbrev Refuses : ℕ → ℕ → ℕ → Type 0
Refuses n m places = (x : ℕ) × (plan_answer n m places ≡ refused x)

abbrev Makes : ℕ → ℕ → ℕ → Type 0
Makes n m places = (plan_answer n m places ≡ gives (piece_count n m)) × (n ≤ most_ip) × (can_plan n m ≡ true) × (piece_count n m ≤ places)

answer_cases : (n m places : ℕ) → Refuses n m places ⊎ Makes n m places
answer_cases n m places = go (ltb most_ip n) refl (can_plan n m) refl (ltb places (piece_count n m)) refl
  where
    go : (a : Bool) → ltb most_ip n ≡ a → (b : Bool) → can_plan n m ≡ b → (c : Bool) → ltb places (piece_count n m) ≡ c → Refuses n m places ⊎ Makes n m places
    go true e b f c g = inl (1, simp e)
    go false e false f c g = inl (21, simp (e, f))
    go false e true f true g = inl (3, simp (e, f, g))
    go false e true f false g = inr (simp (e, f, g), ltb-false _ _ e, f, ltb-false _ _ g)

module _ (n m : ℕ) (ys : List BlockRequest) where
  -- where a job is decided, there is a place for each of its requests, and what it writes is the answer's
  pub decided_writes : (j : Job) → gives j ≡ mapped (job_for n m) (plan_answer n m (length ys))
      → (j.count ≤ length ys) × ((l : List BlockRequest) → l ≡ filled j ys j.count → Plans n m ys (Ok j.count) l)
  decided_writes j d = go (answer_cases n m (length ys))
    where
      go : Refuses n m (length ys) ⊎ Makes n m (length ys)
          → (j.count ≤ length ys) × ((l : List BlockRequest) → l ≡ filled j ys j.count → Plans n m ys (Ok j.count) l)
      go (inl (x, e)) = absurd (cc (d ∙ ap (mapped (job_for n m)) e))
      go (inr (e, few, can, room)) =
          let is : j ≡ job_for n m (piece_count n m) = cc (d ∙ ap (mapped (job_for n m)) e) in
          let c : j.count ≡ piece_count n m = ap (λ (i : Job). i.count) is in (
            omega arith,
            λ l w.
                record {
                  answer = ap gives c ∙ sym e;
                  list_is =
                      w
                      ∙ ap (filled j ys) c
                      ∙ ap (λ (l : List BlockRequest). over l ys) (firsts_are j n m few can c (ap (λ (i : Job). i.n) is) (ap (λ (i : Job). i.blocks) is))
                      ∙ ap (λ (a : Answer ℕ). list_after a (planned n m) ys) (sym e);
                },
          )

  -- where none is, the list stays as it was
  pub none_decided : (r : Result ℕ Refusal) (x : Refusal) → r ≡ Err x → says {A = Job} (Err x) ≡ mapped (job_for n m) (plan_answer n m (length ys))
      → Plans n m ys r ys
  none_decided r x is d = go (answer_cases n m (length ys))
    where
      go : Refuses n m (length ys) ⊎ Makes n m (length ys) → Plans n m ys r ys
      go (inl (y, e)) =
          let same : number_of x ≡ y = cc (d ∙ ap (mapped (job_for n m)) e) in
          record {
            answer = ap (λ (s : Result ℕ Refusal). says s) is ∙ ap refused same ∙ sym e;
            list_is = ap (λ (a : Answer ℕ). list_after a (planned n m) ys) (sym e);
          }
      go (inr (e, few, can, room)) = absurd (cc (d ∙ ap (mapped (job_for n m)) e))
