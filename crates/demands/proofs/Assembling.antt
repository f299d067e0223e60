-- Demand 3 for packets that are built: each is read back as the part of the payload that it was asked for, and those assemble to it.
use mathlib.Core.Path.{◌≡◌, refl, sym, ap, subst, ◌∙◌}
use mathlib.Core.Logic.{◌↔◌}
use mathlib.Core.Bool.{Bool, true, false, not}
use mathlib.Core.List.Memᴰ
use mathlib.Core.List.{List, [], ◌∷◌, ◌++◌, append_assoc, append-nil, Memᴰ}
use Prim.Native.Nat.{ℕ, ◌+◌, ◌-◌, ◌*◌, ◌≤◌, ◌<◌, min}
use native.Mathlib.Omega.{arith}
use lib.ListN.{length, take, length-append}
use lib.Seq.{slice, length-slice, take-length}
use borrow.Author.Tests.{eq-eqb}
use Rattle.pkt.specs.Answers.{Answer, gives, mapped}
use Rattle.pkt.specs.Rfc1071.{checksum}
use Rattle.pkt.specs.Rfc791.{ip_bytes, ip_header}
use Rattle.pkt.specs.declared.ipv4.ip_hdr.{ip_hdr}
use Rattle.pkt.proofs.Choice.{pick_no}
use Rattle.ezpkt.specs.Build.{start_of, end_of, more_follow, piece_ip, piece_packet, packet_of}
use Rattle.ezpkt.specs.Ip4.{fragment_of}
use Rattle.ezpkt.specs.declared.ip4.Template.{Template}
use Rattle.ezpkt.specs.declared.build.IpPiece.{IpPiece}
use Rattle.inspect.specs.Header.{read_answer, data_of}
use Rattle.inspect.specs.Encoded.{read_of, IpFit}
use Rattle.inspect.proofs.Decoding.{decoded, data_is}
use Rattle.assembly.specs.declared.Key.{Key}
use Rattle.assembly.specs.Piece.{Piece, end, Holds, Acceptable}
use Rattle.assembly.specs.Assembly.{State, opened, step, run, complete, held_bytes}
use Rattle.assembly.specs.View.{piece}
use Rattle.assembly.specs.Cut.{requested, Part, Covers}
use Rattle.assembly.specs.Carried.{piece_of, piece_answer}
use Rattle.assembly.specs.Calls.{capacity, map_bytes, progress_answer, Gathered}
use Rattle.assembly.specs.Demand as demand
use Rattle.assembly.proofs.Parts.{requested_whole, requested_past, part_acceptable, mem_length}
use Rattle.assembly.proofs.Carrying.{accepted}
use Rattle.assembly.specs.Packets.{take_all, Accepted}
use Rattle.assembly.proofs.Assembles.{assembles, assembles_here}
use Rattle.assembly.proofs.Delivers.{pieces_of, piece_from, piece_in, taken_is, taken_usable, gathered, delivers_here}
use Rattle.demands.specs.Demand3.{OneHeader}
use Rattle.demands.specs.Assembling.{ip_piece, template_key, Asked, by_fragment, by_tail, by_datagram, BuiltFrom, AllBuilt, Reached, Cover, after_packets, Reassembles}
use Rattle.demands.proofs.Pieces.{flags_more, flags_offset, piece_evil, piece_fit}

-- ---- the packet of a piece is read back as that piece

-- A piece asked for up to the payload's end has MF clear.
last_clear : (d : List ℕ) (off len : ℕ) → length d ≤ 8 * off + 8 * len → (requested d off len).mf ≡ false
unfolding requested
last_clear d off len h = let e : min (8 * off + 8 * len) (length d) ≡ length d = omega arith in ap not (eq-eqb _ _ e)

-- The assembly has a payload buffer of C bytes and a map of M.
module _ (C M : ℕ) (most : C ≤ capacity) (bits : C ≤ 64 * M) (t : Template) (d : List ℕ) (one : OneHeader t) (few : length d ≤ C) where
  module _ (off len : ℕ) (rest : List ℕ) (low : off ≤ 8191) where
    asked : IpPiece
    asked = ip_piece t off len

    m : Bool
    m = more_follow asked (length d)

    body : List ℕ
    body = slice (start_of asked (length d)) (end_of asked (length d)) d

    header : ip_hdr
    header = piece_ip asked (20 + (end_of asked (length d) - start_of asked (length d))) m

    body_length : length body ≡ end_of asked (length d) - start_of asked (length d)
    unfolding asked body
    body_length = length-slice (start_of asked (length d)) (end_of asked (length d)) d (omega arith)

    fit : IpFit header
    unfolding asked header
    fit = piece_fit asked (20 + (end_of asked (length d) - start_of asked (length d))) m one.fits low (omega arith)

    wire : List ℕ
    wire = ip_header header ++ (body ++ rest)

    wire_is : packet_of (fragment_of t off len) d ++ rest ≡ wire
    unfolding piece_packet asked m body header wire
    wire_is = append_assoc (ip_header header) body rest

    read_back : read_answer wire ≡ gives (read_of header)
    unfolding asked header wire
    read_back =
        decoded header (body ++ rest) fit (omega arith) (omega (arith, length-append body rest, body_length))
        ∙ pick_no _ _ (piece_evil asked (20 + (end_of asked (length d) - start_of asked (length d))) m low ∙ one.clear)

    -- what is read is the cut
    piece_is : piece_of wire (read_of header) ≡ requested d off len
    unfolding asked m body header wire ip_header read_of requested
    piece_is =
        let held : data_of (read_of header) wire ≡ body = data_is header (checksum (ip_bytes header 0)) body rest (omega (arith, body_length)) in
        λ i. piece (flags_offset asked m low i) (flags_more asked m low i) (held i)

    -- A piece that ends within the C is accepted, and carries the cut.
    carried : end (requested d off len) ≤ C → piece_answer C (template_key t) (packet_of (fragment_of t off len) d ++ rest) ≡ gives (requested d off len)
    unfolding asked header read_of template_key
    carried room =
        let ok : Acceptable C (piece_of wire (read_of header)) = rw piece_is (record { whole = requested_whole d off len; fits = room }) in
        ap (piece_answer C (template_key t)) wire_is
        ∙ accepted C (template_key t) wire (read_of header) read_back refl ok
        ∙ ap gives piece_is

  -- ---- the three calls
  part_at : (off len : ℕ) → 8 * off ≤ length d → Part d (requested d off len)
  part_at off len h = record { off = off; len = len; within = h; built = refl }

  asked_within : (l : List ℕ) (off len : ℕ) → Asked t d l off len → 8 * off ≤ length d
  asked_within l off len (by_fragment o n rest h e) = h
  asked_within l off len (by_tail o rest h e) = h
  asked_within l off len (by_datagram rest e) = omega arith

  pub asked_carries : (l : List ℕ) (off len : ℕ) → Asked t d l off len → piece_answer C (template_key t) l ≡ gives (requested d off len)
  asked_carries l off len b = go b
    where
      cut_at : (o n : ℕ) (rest : List ℕ) → 8 * o ≤ length d → l ≡ packet_of (fragment_of t o n) d ++ rest
          → piece_answer C (template_key t) l ≡ gives (requested d o n)
      cut_at o n rest h e =
          let low : o ≤ 8191 = omega arith in
          ap (piece_answer C (template_key t)) e
          ∙ carried o n rest low (part_acceptable C d (requested d o n) few (part_at o n h)).fits

      go : {o n : ℕ} → Asked t d l o n → piece_answer C (template_key t) l ≡ gives (requested d o n)
      go (by_fragment o n rest h e) = cut_at o n rest h e
      go (by_tail o rest h e) = cut_at o (length d) rest h e
      go (by_datagram rest e) = cut_at 0 (length d) rest (omega arith) e

  -- What such a packet is accepted with is the part that was asked for.
  asked_is : (l : List ℕ) (p : Piece) (off len : ℕ) → Asked t d l off len → piece_answer C (template_key t) l ≡ gives p → p ≡ requested d off len
  asked_is l p off len b e = let y = asked_carries l off len b in cc (e, y)

  -- It ends where what was asked for ends.
  asked_end : (off len : ℕ) → 8 * off ≤ length d → end (requested d off len) ≡ min (8 * off + 8 * len) (length d)
  unfolding requested
  asked_end off len h =
      let f : ℕ = min (8 * off) (length d) in
      let e : ℕ = min (8 * off + 8 * len) (length d) in
      let size : length (slice f e d) ≡ e - f = length-slice f e d (omega arith) in
      omega (arith, size)

  -- ---- lists of them
  here : (k : Key) → demand.Assembles C M k
  here k = assembles C M k bits

  -- the state after packets
  abbrev after_all : List (List ℕ) → State
  after_all ls = take_all C M (opened (template_key t) C M) ls

  state_is : (ls : List (List ℕ)) → after_all ls ≡ run (opened (template_key t) C M) (pieces_of C (template_key t) ls)
  state_is ls = taken_is C M (template_key t) bits ls

  -- those that are accepted were built; the others may be anything
  module _ (ls : List (List ℕ)) (all : (l : List ℕ) (p : Piece) → Accepted C (template_key t) ls l p → BuiltFrom t d l) where
    ps : List Piece
    ps = pieces_of C (template_key t) ls

    parts : demand.Built d ps
    unfolding ps
    parts p m =
        let x = piece_from C (template_key t) ls p m in
        let (off, len, y) = all x.0 p x.1 in
        rw (asked_is x.0 p off len y x.1.carries) (part_at off len (asked_within x.0 off len y))

    -- The pieces hold every place exactly if every place was asked for.
    reached : (j : ℕ) (p : Piece) → Memᴰ p ps → Holds p j → Reached t d ls j
    unfolding ps requested
    reached j p m h =
        let x = piece_from C (template_key t) ls p m in
        let (off, len, y) = all x.0 p x.1 in
        let is = asked_is x.0 p off len y x.1.carries in
        let in-it : Holds (requested d off len) j = subst (λ (q : Piece). Holds q j) is h in
        let low = asked_within x.0 off len y in
        record {
          packet = x.0;
          off = off;
          len = len;
          handed = x.1.handed;
          asked = y;
          from = omega (arith, in-it.from);
          till = omega (arith, in-it.till, asked_end off len low);
        }

    held_at : (j : ℕ) (l : List ℕ) (off len : ℕ) → Memᴰ l ls → Asked t d l off len → start_of (ip_piece t off len) (length d) ≤ j
        → j < end_of (ip_piece t off len) (length d) → (p : Piece) × Memᴰ p ps × Holds p j
    unfolding ps requested
    held_at j l off len handed y from till =
        let p : Piece = requested d off len in
        let low = asked_within l off len y in (
          p,
          piece_in C (template_key t) ls l p (record { handed = handed; carries = asked_carries l off len y }),
          record { from = omega (arith, from); till = omega (arith, till, asked_end off len low) },
        )

    pub built_complete : (complete (after_all ls) ≡ true) ↔ ((0 < length (pieces_of C (template_key t) ls)) × Cover t d ls)
    unfolding ps Covers Cover
    built_complete =
        let e = ap complete (state_is ls) in
        let w = (here (template_key t)).complete_when d few ps parts in (
          λ h. let x = w.0 (sym e ∙ h) in (x.0, λ j q. let (p, m, holds) = x.1 j q in reached j p m holds),
          λ x. e ∙ w.1 (x.0, λ j q. let r = x.1 j q in held_at j r.packet r.off r.len r.handed r.asked r.from r.till),
        )

    pub built_whole : complete (after_all ls) ≡ true → held_bytes (after_all ls) ≡ d
    unfolding ps
    built_whole h =
        ap held_bytes (state_is ls) ∙ (here (template_key t)).held_whole d few ps parts (sym (ap complete (state_is ls)) ∙ h)

    built_held : complete (after_all ls) ≡ true → Gathered (progress_answer C M (after_all ls)) (after_all ls).payload d
    unfolding ps
    built_held h =
        let e : complete (run (opened (template_key t) C M) ps) ≡ true = sym (ap complete (state_is ls)) ∙ h in
        gathered _ (after_all ls) d (taken_usable C M (template_key t) bits ls) h (built_whole h)
        (ap (λ (s : State). take (length d) s.payload) (state_is ls) ∙ ((here (template_key t)).held d few ps parts e).1)

    pub built_sound : (after_all ls).spoilt ≡ false
    unfolding ps
    built_sound = ap (λ (s : State). s.spoilt) (state_is ls) ∙ (here (template_key t)).never_spoilt d few ps [] (rw append-nil parts)

  -- ---- the story
  past_carries : (l : List ℕ) (off len : ℕ) (rest : List ℕ) → length d < 8 * off → 8 * off ≤ C → l ≡ packet_of (fragment_of t off len) d ++ rest
      → piece_answer C (template_key t) l ≡ gives (requested d off len)
  past_carries l off len rest past room built =
      let low : off ≤ 8191 = omega (arith, room) in
      ap (piece_answer C (template_key t)) built
      ∙ carried off len rest low (omega (arith, requested_past d off len past, room))

-- ---- document 01's sizes
module _ (t : Template) (d : List ℕ) (one : OneHeader t) (few : length d ≤ capacity) where
  abbrev Own : List (List ℕ) → Type 0
  Own ls = (l : List ℕ) (p : Piece) → Accepted capacity (template_key t) ls l p → BuiltFrom t d l

  own_built : (ls : List (List ℕ)) → AllBuilt t d ls → Own ls
  own_built ls all l p a = all l a.handed

  carries_here : (l : List ℕ) (off len : ℕ) → Asked t d l off len → piece_answer capacity (template_key t) l ≡ gives (requested d off len)
  carries_here = asked_carries capacity map_bytes (omega arith) (omega arith) t d one few

  not_none : (ls : List (List ℕ)) → AllBuilt t d ls → 0 < length ls → 0 < length (pieces_of capacity (template_key t) ls)
  not_none [] all h = absurd (omega arith)
  not_none (l ∷ ls) all h =
      let (off, len, y) = all l (Memᴰ.head refl) in
      mem_length (piece_in capacity (template_key t) (l ∷ ls) l (requested d off len) (record { handed = Memᴰ.head refl; carries = carries_here l off len y }))

  some_packet : (ls : List (List ℕ)) → 0 < length (pieces_of capacity (template_key t) ls) → 0 < length ls
  unfolding pieces_of
  some_packet [] h = h
  some_packet (l ∷ ls) h = omega arith

  complete_here : (ls : List (List ℕ)) → Own ls → (complete (after_packets t ls) ≡ true) ↔ ((0 < length (pieces_of capacity (template_key t) ls)) × Cover t d ls)
  complete_here = built_complete capacity map_bytes (omega arith) (omega arith) t d one few

  -- Demand 3: "If all were built from one payload of at most 65,515 bytes under one header with the assembly's key, none asked for past its
  -- end, all are accepted and the state is never spoilt. It is complete exactly when at least one was handed in and together they cover the
  -- payload, and it then holds that payload."
  pub reassembles : Reassembles t d
  reassembles =
      record {
        carries = carries_here;
        accepted =
            λ ls l off len b.
            (delivers_here (template_key t)).answers ls l ∙ ap (λ (a : Answer Piece). mapped (step (after_packets t ls)) a) (carries_here l off len b);
        never_spoilt =
            λ ls later all.
            built_sound capacity map_bytes (omega arith) (omega arith) t d one few ls (λ l p a. all l (Memᴰ.append_left later a.handed));
        complete_when =
            λ ls all.
            let w = complete_here ls (own_built ls all) in
            (λ h. let x = w.0 h in (some_packet ls x.0, x.1), λ x. w.1 (not_none ls all x.0, x.1));
        held = λ ls all h. built_held capacity map_bytes (omega arith) (omega arith) t d one few ls (own_built ls all) h;
        past_end_spoils =
            λ l m off len x b up ls lm mm.
            ((delivers_here (template_key t)).spoilt_when ls).1
            (record {
              one = l;
              other = m;
              p = requested d x.off x.len;
              q = requested d off len;
              one_in = record { handed = lm; carries = past_carries capacity map_bytes (omega arith) (omega arith) t d one few l x.off x.len x.rest x.past x.room x.built };
              other_in = record { handed = mm; carries = carries_here m off len b };
              clash =
                  (assembles_here (template_key t)).past_end d x.off x.len x.past (requested d off len)
                  (part_at capacity map_bytes (omega arith) (omega arith) t d one few off len (asked_within capacity map_bytes (omega arith) (omega arith) t d one few m off len b))
                  (last_clear d off len up);
            });
      }

-- "`tail` takes len = n; `datagram` carries all with offset 0 and MF clear": the one says that nothing follows, the other carries the payload.
pub tail_last : (d : List ℕ) (off : ℕ) → (requested d off (length d)).mf ≡ false
tail_last d off = last_clear d off (length d) (omega arith)

pub datagram_all : (d : List ℕ) → requested d 0 (length d) ≡ piece 0 false d
unfolding requested
datagram_all d =
    let e : min (8 * 0 + 8 * length d) (length d) ≡ length d = omega arith in
    let f : min (8 * 0) (length d) ≡ 0 = omega arith in
    λ i. piece 0 (tail_last d 0 i) ((ap (λ (k : ℕ). slice k (min (8 * 0 + 8 * length d) (length d)) d) f ∙ ap (λ (k : ℕ). slice 0 k d) e ∙ take-length d) i)
