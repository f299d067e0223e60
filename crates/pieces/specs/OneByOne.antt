-- Document 02, T-01: "The result equals building them one by one in list order."
use Rattle.std.specs.Prelude.{◌≡◌, List, [], ◌∷◌, ◌++◌, ℕ, ◌+◌, ◌<◌, ◌≤◌, length, take, drop, get_or, Result, Ok, Err}
use Rattle.pkt.specs.Answers.{most_ip}
use Rattle.pkt.specs.Written.{written}
use Rattle.pkt.specs.declared.refusal.Refusal.{Refusal}
use Rattle.pkt.specs.declared.refusal.Refusal.TheVariants.{BadOffset}
use Rattle.pkt.specs.declared.refusal.ListRefusal.{ListRefusal}
use Rattle.pkt.specs.declared.refusal.ListRefusal.TheVariants.{At}
use Rattle.ezpkt.specs.Build.{Answered}
use Rattle.ezpkt.specs.Ip4.{fragment_of}
use Rattle.ezpkt.specs.declared.ip4.Template.{Template}
use Rattle.pieces.specs.declared.BlockRequest.{BlockRequest}
use Rattle.pieces.specs.Fragments.{sum_of, Fragmented}

-- Accepted calls of `fragment` for the requests of a list, one after the other, each into what the one before left of the output, which begins at
-- place `at` of the whole: what is left of it at first, what it holds after the last, and the end of each packet.
pub data OneByOne (t : Template) (p : List ℕ) : ℕ → List BlockRequest → List ℕ → List ℕ → List ℕ → Type 0 where
  none : (at : ℕ) (o : List ℕ) → OneByOne t p at [] o o []
  one : (at n : ℕ) (r : BlockRequest) (rs : List BlockRequest) (o o₁ rest es : List ℕ)
      → Answered (fragment_of t r.off r.len) p o (Ok n) o₁ → OneByOne t p (at + n) rs (drop n o₁) rest es
      → OneByOne t p at (r ∷ rs) o (take n o₁ ++ rest) ((at + n) ∷ es)

-- the request at index i, where there is one
abbrev pub no_request : BlockRequest
no_request = record { off = 0; len = 0 }

abbrev pub request_at : List BlockRequest → ℕ → BlockRequest
request_at rs i = get_or rs i no_request

-- Number 2 is given for a request, whatever the output.
abbrev pub RefusedBy2 : Template → List ℕ → BlockRequest → Type 0
RefusedBy2 t p r = (o o' : List ℕ) (s : Result ℕ Refusal) → Answered (fragment_of t r.off r.len) p o s o' → s ≡ Err BadOffset

-- It is not, whatever the output.
abbrev pub NotRefusedBy2 : Template → List ℕ → BlockRequest → Type 0
NotRefusedBy2 t p r = (o o' : List ℕ) → Answered (fragment_of t r.off r.len) p o (Err BadOffset) o' → ⊥

pub record ListEquals : Type 0 where
  -- Where the call is accepted, so is each single call, and they leave the same bytes and the same ends.
  pub accepted : (t : Template) (rs : List BlockRequest) (p o e o' e' : List ℕ) (k : ℕ) → Fragmented t rs p o e (Ok k) o' e'
      → (es : List ℕ) × OneByOne t p 0 rs o o' es × (e' ≡ written es e)
  -- Where each single call is accepted, and there is a place for each end, so is the call, and leaves the same. (With no request at all no
  -- single call looks at the payload's length, and the call does.)
  pub back : (t : Template) (rs : List BlockRequest) (p o e o' e' o₁ es : List ℕ) (r : Result ℕ ListRefusal) → length p ≤ most_ip → length rs ≤ length e
      → OneByOne t p 0 rs o o₁ es → Fragmented t rs p o e r o' e' → (r ≡ Ok (sum_of (length p) rs)) × (o' ≡ o₁) × (e' ≡ written es e)
  -- "number 2 comes with the index of the first such request": `fragment` refuses that one by 2, and none before it.
  pub first_bad : (t : Template) (rs : List BlockRequest) (p o e o' e' : List ℕ) (n : Refusal) (i : ℕ) → Fragmented t rs p o e (Err (At n i)) o' e'
      → (n ≡ BadOffset) × (i < length rs) × RefusedBy2 t p (request_at rs i) × ((j : ℕ) → j < i → NotRefusedBy2 t p (request_at rs j))
