-- Document 02, T-01: "Take one payload, one header template and a lent list of requests, each with offset and length, and write the packets end
-- to end with the end of each reported."
use Rattle.std.specs.Prelude.{ℕ, suc, ◌+◌, ◌||◌, cond, List, [], ◌∷◌, ◌++◌, length, ltb, Result}
use Rattle.pkt.specs.Answers.{ListAnswer, refused_whole, refused_at, gives_all, list_says, plainly, most_ip}
use Rattle.pkt.specs.Written.{leaves, Promise}
use Rattle.pkt.specs.declared.refusal.ListRefusal.{ListRefusal}
use Rattle.ezpkt.specs.Build.{packet_of, fragment_size, is_bad_offset}
use Rattle.ezpkt.specs.Ip4.{fragment_of}
use Rattle.ezpkt.specs.declared.ip4.Template.{Template}
use Rattle.pieces.specs.declared.BlockRequest.{BlockRequest}

-- "the packets end to end", in list order
unfoldable pub packets_of : Template → List BlockRequest → List ℕ → List ℕ
packets_of t [] p = []
packets_of t (r ∷ rs) p = packet_of (fragment_of t r.off r.len) p ++ packets_of t rs p

-- the length of a request's packet, for a payload of n bytes
abbrev pub size_for : ℕ → BlockRequest → ℕ
size_for n r = fragment_size r.off r.len n

-- "the end of each": where each packet ends, if the first begins at place `at`
unfoldable pub ends_from : ℕ → ℕ → List BlockRequest → List ℕ
ends_from n at [] = []
ends_from n at (r ∷ rs) = (at + size_for n r) ∷ ends_from n (at + size_for n r) rs

-- "the sum of the packets"
unfoldable pub sum_of : ℕ → List BlockRequest → ℕ
sum_of n [] = 0
sum_of n (r ∷ rs) = size_for n r + sum_of n rs

-- "the index of the first such request", one that number 2 refuses; where there is none, how many requests there are
unfoldable pub first_bad : List BlockRequest → ℕ
first_bad [] = 0
first_bad (r ∷ rs) = cond (is_bad_offset r.off) 0 (suc (first_bad rs))

-- "Refusals: 1, then 2 over the list, then 3 if the sum of the packets or the number of ends exceeds its room": for a payload of n bytes, an
-- output of room bytes, and so many places for ends.
abbrev pub fragments_answer : List BlockRequest → ℕ → ℕ → ℕ → ListAnswer ℕ
fragments_answer rs n room places =
    cond (ltb most_ip n) (refused_whole 1)
    (cond (ltb (first_bad rs) (length rs)) (refused_at 2 (first_bad rs))
    (cond (ltb room (sum_of n rs) || ltb places (length rs)) (refused_whole 3)
    (gives_all (sum_of n rs))))

-- The call's whole promise: the one answer; the output with the packets at its start, and the list of ends with the packets' at its start. "If
-- any request would be refused, the whole call is refused and nothing is written."
abbrev pub Fragmented : Template → List BlockRequest → List ℕ → List ℕ → List ℕ → Result ℕ ListRefusal → List ℕ → List ℕ → Type 0
Fragmented t rs p o e r o' e' =
    let a : ListAnswer ℕ = fragments_answer rs (length p) (length o) (length e) in
    Promise {B = List ℕ × List ℕ} list_says a (leaves (plainly a) (packets_of t rs p) o, leaves (plainly a) (ends_from (length p) 0 rs) e) r (o', e')
