-- Demand 3 over a list of pieces: what one call writes for the list, cut at the ends that it reports, is what single calls leave.
use mathlib.Core.Path.{◌≡◌, refl, sym, ap, ap₂, subst, ◌∙◌}
use mathlib.Core.Bool.{Bool, true, false, cond}
use mathlib.Core.List.Memᴰ
use mathlib.Core.List.{List, [], ◌∷◌, ◌++◌, map, append_assoc, append-nil, Memᴰ}
use Prim.Native.Nat.{ℕ, zero, suc, ◌+◌, ◌≤◌, ◌<◌}
use native.Mathlib.Omega.{arith}
use native.Mathlib.Nat.{le_of_suc-le-suc}
use lib.ListN.{length, take, get_or, length-append, length-map}
use lib.Seq.{take_at}
use borrow.Author.Tests.{ltb-false}
use Rattle.pkt.specs.Answers.{ListAnswer, refused_whole, gives_all, plainly, most_ip}
use Rattle.pkt.specs.Written.{written, leaves}
use Rattle.ezpkt.specs.Build.{packet_of}
use Rattle.ezpkt.specs.Ip4.{fragment_of}
use Rattle.ezpkt.specs.declared.ip4.Template.{Template}
use Rattle.ezpkt.proofs.Sizes.{size_is}
use Rattle.pieces.specs.Fragments.{packets_of, size_for, ends_from}
use Rattle.pieces.specs.OneByOne.{request_at}
use Rattle.pieces.specs.declared.BlockRequest.{BlockRequest}
use Rattle.assembly.specs.Calls.{capacity}
use Rattle.demands.specs.Assembling.{by_fragment, Cover}
use Rattle.demands.specs.Cutting.{CutBy, AllCut}
use Rattle.reporting.specs.Report.{cut_at}
use Rattle.demands.specs.Listing.{packets_in, Listed, ListAssembles}
use Rattle.demands.proofs.Left.{single}
use Rattle.demands.proofs.Outputs.{between}
use Rattle.demands.proofs.Gathering.{from_one}

-- ---- lists

-- the element at an index is a member,
at_member : {A : Type 0} (l : List A) (i : ℕ) (d : A) → i < length l → Memᴰ (get_or l i d) l
at_member [] i d h = absurd (omega arith)
at_member (x ∷ l) zero d h = Memᴰ.head refl
at_member (x ∷ l) (suc i) d h = Memᴰ.tail (at_member l i d (le_of_suc-le-suc h))

-- and what is made of it stands at that index
at_map : {A B : Type 0} (f : A → B) (l : List A) (i : ℕ) (d : A) (z : B) → i < length l → get_or (map f l) i z ≡ f (get_or l i d)
at_map f [] i d z h = absurd (omega arith)
at_map f (x ∷ l) zero d z h = refl
at_map f (x ∷ l) (suc i) d z h = at_map f l i d z (le_of_suc-le-suc h)

-- ---- the packets end to end

-- the packet of one request
abbrev packet_for : Template → List ℕ → BlockRequest → List ℕ
packet_for t p r = packet_of (fragment_of t r.off r.len) p

-- it is as long as the ends count it
packet_size : (t : Template) (p : List ℕ) (r : BlockRequest) → length (packet_for t p r) ≡ size_for (length p) r
packet_size t p r = size_is (fragment_of t r.off r.len) p

-- one end for each request
ends_length : (n at : ℕ) (rs : List BlockRequest) → length (ends_from n at rs) ≡ length rs
unfolding ends_from
ends_length n at [] = refl
ends_length n at (r ∷ rs) = ap suc (ends_length n (at + size_for n r) rs)

-- Behind any bytes a and before any others, cut at their ends, they are the packets of the requests.
cut_at_ends : (t : Template) (p rest a : List ℕ) (at : ℕ) (rs : List BlockRequest) → length a ≡ at
    → cut_at at (ends_from (length p) at rs) (a ++ (packets_of t rs p ++ rest)) ≡ map (packet_for t p) rs
unfolding cut_at ends_from packets_of
cut_at_ends t p rest a at [] e = refl
cut_at_ends t p rest a at (r ∷ rs) e =
    let k : List ℕ = packet_for t p r in
    let size : length k ≡ size_for (length p) r = packet_size t p r in
    let later : List ℕ = packets_of t rs p ++ rest in
    let here : a ++ ((k ++ packets_of t rs p) ++ rest) ≡ a ++ (k ++ later) = ap (λ (l : List ℕ). a ++ l) (append_assoc k (packets_of t rs p) rest) in
    let end : ℕ = at + size_for (length p) r in
    ap (λ (l : List ℕ). cut_at at (end ∷ ends_from (length p) end rs) l) here
    ∙ ap₂ {C = List (List ℕ)} ◌∷◌ (between a k later at (size_for (length p) r) e size)
    (ap (cut_at end (ends_from (length p) end rs)) (sym (append_assoc a k later))
    ∙ cut_at_ends t p rest (a ++ k) end rs (length-append a k ∙ omega (arith, size, e)))

-- ---- an accepted call

-- a test that refuses the whole did not, where all was given
not_whole : (b : Bool) (x k : ℕ) (rest : ListAnswer ℕ) → gives_all k ≡ cond b (refused_whole x) rest → b ≡ false
not_whole true x k rest e = let z : ◌≡◌ {A = ℕ} 0 1 = cc in absurd (omega arith)
not_whole false x k rest e = refl

module _ (t : Template) (rs : List BlockRequest) (p o' e' : List ℕ) (x : Listed t rs p o' e') where
  -- the payload is short enough,
  few : length p ≤ capacity
  few = ltb-false most_ip (length p) (not_whole _ 1 x.size _ x.call.answer)

  -- the packets stand at the start of the output,
  output_is : o' ≡ written (packets_of t rs p) x.output
  output_is =
      ap (λ (b : List ℕ × List ℕ). b.0) x.call.after
      ∙ ap (λ (a : ListAnswer ℕ). leaves (plainly a) (packets_of t rs p) x.output) (sym x.call.answer)

  -- and their ends at the start of the list of ends.
  ends_are : e' ≡ written (ends_from (length p) 0 rs) x.places
  ends_are =
      ap (λ (b : List ℕ × List ℕ). b.1) x.call.after
      ∙ ap (λ (a : ListAnswer ℕ). leaves (plainly a) (ends_from (length p) 0 rs) x.places) (sym x.call.answer)

  -- So what is cut there is the packets of the requests, in their order.
  packets_are : packets_in rs o' e' ≡ map (packet_for t p) rs
  unfolding written
  packets_are =
      let es : List ℕ = ends_from (length p) 0 rs in
      let ends : take (length rs) e' ≡ es = ap (take (length rs)) ends_are ∙ take_at es _ (length rs) (ends_length (length p) 0 rs) in
      ap₂ (cut_at 0) ends output_is ∙ cut_at_ends t p _ [] 0 rs refl

  -- The packet of each request is what a single call leaves.
  cut : (r : BlockRequest) → Memᴰ r rs → CutBy t p (packet_for t p r) r.off r.len
  cut r m = single t p r.off r.len few (x.none_past r m)

  -- As many are cut as there are requests,
  as_many : length (packets_in rs o' e') ≡ length rs
  as_many = ap length packets_are ∙ length-map rs (packet_for t p)

  -- the one at an index is that of the request there,
  each : (i : ℕ) → i < length rs → CutBy t p (get_or (packets_in rs o' e') i []) (request_at rs i).off (request_at rs i).len
  each i h =
      let is : get_or (packets_in rs o' e') i [] ≡ packet_for t p (request_at rs i) =
      ap (λ (ls : List (List ℕ)). get_or ls i []) packets_are ∙ at_map (packet_for t p) rs i _ [] h in
      subst (λ (l : List ℕ). CutBy t p l (request_at rs i).off (request_at rs i).len) (sym is) (cut (request_at rs i) (at_member rs i _ h))

  -- and any that is among them is that of some request.
  pub all_cut : AllCut t p (packets_in rs o' e')
  all_cut l m =
      let (r, in_List, is) = Memᴰ.of_map (packet_for t p) rs (subst (Memᴰ l) packets_are m) in
      (r.off, r.len, subst (λ (k : List ℕ). CutBy t p k r.off r.len) is (cut r in_List))

-- Document 02, T-01: "Demand 3 reads over the list as over single pieces."
pub list_assembles : ListAssembles
unfolding Cover
list_assembles =
    record {
      exactly = packets_are;
      as_many = as_many;
      each = each;
      from_list =
          λ t p one rs o' e' x ls from r d m handed.
          from_one t p one (few t rs p o' e' x) ls r d m (λ l in_List. all_cut t rs p o' e' x l (from l in_List)) handed;
      covers =
          λ t p rs o' e' x covering j h.
          let (r, in_List, start, till) = covering j h in
          let k : List ℕ = packet_for t p r in
          record {
            packet = k;
            off = r.off;
            len = r.len;
            handed = subst (Memᴰ k) (sym (packets_are t rs p o' e' x)) (Memᴰ.map (packet_for t p) in_List);
            asked = by_fragment r.off r.len [] (x.none_past r in_List) (sym (append-nil k));
            from = start;
            till = till;
          };
    }
