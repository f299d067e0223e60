-- What the check's loop keeps, and what it leads to.
use mathlib.Core.Path.{◌≡◌, refl, sym, ap, ◌∙◌}
use mathlib.Core.List.{List, [], ◌∷◌}
use Prim.Native.Nat.{ℕ, ◌+◌, ◌<◌, ◌≤◌}
use native.Mathlib.Numerals.{add-one}
use lib.ListN.{length, drop}
use Rattle.pieces.specs.declared.BlockRequest.{BlockRequest}
use Rattle.pieces.specs.OneByOne.{request_at}
use Rattle.pieces.proofs.Walking.{unroll, all_gone}
use Rattle.planner.specs.declared.Look.{Look}
use Rattle.planner.specs.Steps.{look_none, look_with, look_in, complete, is_plan}
use Rattle.planner.specs.Answers.{judge_answer, check_plan}

-- before the first request
pub look_begun : (k : Look) (n m : ℕ) (ys : List BlockRequest) → k ≡ look_none n m → look_in k (drop 0 ys) ≡ look_in (look_none n m) ys
look_begun k n m ys e = ap (λ (s : Look). look_in s ys) e

-- one request more
pub look_next : (k k' : Look) (ys : List BlockRequest) (i : ℕ) → i < length ys → k' ≡ look_with k (request_at ys i)
    → look_in k' (drop (i + 1) ys) ≡ look_in k (drop i ys)
unfolding look_in
look_next k k' ys i h e = rw (add-one, e, unroll ys i h) refl

-- no request more
pub look_done : (k : Look) (ys : List BlockRequest) (i : ℕ) → length ys ≤ i → k ≡ look_in k (drop i ys)
unfolding look_in
look_done k ys i h = sym (ap (look_in k) (all_gone ys i h))

-- the payload's length stays
look_keeps : (k : Look) (l : List BlockRequest) → (look_in k l).n ≡ k.n
unfolding look_in
look_keeps k [] = refl
look_keeps k (r ∷ l) = look_keeps (look_with k r) l

pub judged_is : (n m : ℕ) (k : Look) (ys : List BlockRequest) → k ≡ look_in (look_none n m) ys → judge_answer k.n (complete k) ≡ check_plan n m ys
unfolding is_plan
judged_is n m k ys e =
    ap (λ (s : Look). judge_answer s.n (complete s)) e
    ∙ ap (λ (i : ℕ). judge_answer i (complete (look_in (look_none n m) ys))) (look_keeps (look_none n m) ys)
