-- What one changed word, or the odd last byte, does to the check of a UDP datagram.
use mathlib.Core.Path.{◌≡◌, refl, sym, ap, ◌∙◌}
use mathlib.Core.Logic.{inl, inr}
use mathlib.Core.Bool.{Bool, true, false, cond}
use mathlib.Core.List.{List, ◌++◌}
use Prim.Native.Nat.{ℕ, ◌+◌, ◌-◌, ◌≤◌}
use native.Mathlib.Omega.{arith}
use lib.ListN.{length, set, length-set}
use lib.Dec.{eqb}
use borrow.Author.Tests.{le-ltb, eq-eqb, ne_eqb}
use Rattle.pkt.specs.Answers.{refused, gives}
use Rattle.pkt.specs.Fields.{Bytes}
use Rattle.pkt.specs.Rfc1071.{Verifies, verifies}
use Rattle.pkt.specs.Rfc768.{pseudo, udp_sum_at, udp_checksum}
use Rattle.pkt.specs.Rfc791.{ip_header}
use Rattle.pkt.specs.declared.ipv4.udp_hdr.{udp_hdr}
use Rattle.pkt.proofs.Choice.{fails}
use Rattle.pkt.proofs.Deciding.{past, held}
use Rattle.pkt.proofs.Headers.{udp_verifies}
use Rattle.ezpkt.specs.Build.{udp_hdr_of, udp_packet, packet_of}
use Rattle.ezpkt.specs.declared.build.UdpDatagram.{UdpDatagram}
use Rattle.ezpkt.specs.declared.build.Request.TheVariants.{Udp}
use Rattle.ezpkt.proofs.Deciding.{datagram_fits}
use Rattle.inspect.specs.declared.check.Verdict.TheVariants.{Good, NoChecksum}
use Rattle.inspect.specs.Header.{field_at}
use Rattle.inspect.specs.Check.{udp_cut, unless_bad, check_answer}
use Rattle.inspect.specs.Encoded.{read_of}
use Rattle.inspect.proofs.Sent.{udp_part}
use Rattle.inspect.proofs.Standing.{sums_stand}
use Rattle.mending.specs.Sums.{renewed}
use Rattle.mending.proofs.Renewed.{renewed_length, field_before, field_here}
use Rattle.mending.proofs.Encoded.{udp_size, udp_bytes, udp_long}
use Rattle.demands.specs.Mending.{Asked, Whole}
use Rattle.demands.specs.Options.{Parts}
use Rattle.demands.specs.WrongWord.{WordChange, LastChange, Turned, behind_ip, GoodIfTurned, LastSeen}
use Rattle.demands.proofs.Parts.{udp_parts}
use Rattle.demands.proofs.Sums.{udp_range}
use Rattle.demands.proofs.OneWord.{behind_only, behind_turned, behind_last, word_kept, Neither, turned_keeps, last_kept}
use Rattle.demands.proofs.PartWord.{check_in, word_in, change_in, lifted, lifted_last}

module _ (u : UdpDatagram) (p : List ℕ) (a : Asked (Udp u) p) (whole : Whole (Udp u)) where
  abbrev few : length p ≤ 65507
  few = (datagram_fits u (length p) a.room a.size a.taken).few

  -- its header and its part
  abbrev y : Parts
  y = udp_parts u p a.range few

  abbrev d : List ℕ
  d = y.part

  abbrev r : udp_hdr
  r = udp_hdr_of u (length p)

  abbrev c : ℕ
  c = udp_checksum u.saddr u.daddr r p

  -- It is as long as its header and its payload,
  size : length d ≡ 8 + length p
  size = udp_size p c r

  -- it verifies behind the pseudo header,
  sums : Verifies (pseudo u.saddr u.daddr 17 (length d) ++ d)
  sums = rw size (udp_verifies u.saddr u.daddr p a.bytes r)

  -- it is bytes,
  bytes : Bytes d
  bytes = udp_bytes p c r a.bytes

  -- it says how long it is,
  length_field_lem : field_at d 4 2 ≡ length d
  length_field_lem = udp_long p c r (omega (arith, few)) refl

  -- its checksum is not 0 and has 16 bits,
  sum_range : (1 ≤ c) × (c ≤ 65535)
  sum_range = udp_range u.saddr u.daddr r p

  -- and stands in it.
  sum_field : field_at d 6 2 ≡ c
  sum_field = sums_stand.udp r c p sum_range.1

  -- The check of another part as long.
  check : (e : List ℕ) → length e ≡ length d
      → check_answer (ip_header y.header ++ e)
      ≡ cond (udp_cut e) (refused 14) (cond (eqb (field_at e 6 2) 0) (gives NoChecksum) (unless_bad (verifies (pseudo u.saddr u.daddr 17 (length e) ++ e))))
  unfolding read_of
  check e same = check_in y whole.0 e same ∙ udp_part (read_of y.header) e whole.1 refl

  -- Where its length stays, it is not cut,
  uncut : (e : List ℕ) → length e ≡ length d → field_at e 4 2 ≡ field_at d 4 2 → udp_cut e ≡ false
  uncut e same kept = simp (le-ltb (length e) 8 (omega (arith, size)), eq-eqb (field_at e 4 2) (length e) (kept ∙ length_field_lem ∙ sym same))

  -- and where its checksum stays, it has one.
  summed : (e : List ℕ) → field_at e 6 2 ≡ field_at d 6 2 → eqb (field_at e 6 2) 0 ≡ false
  summed e kept = ne_eqb (field_at e 6 2) 0 (λ z. omega (arith, kept ∙ sum_field, sum_range.0))

  module _ (j x : ℕ) (ch : WordChange d j x) where
    abbrev e : List ℕ
    e = renewed j x d

    abbrev verified : Bool
    verified = verifies (pseudo u.saddr u.daddr 17 (length e) ++ e)

    -- It verifies only if the word turned,
    verified_only : verified ≡ true → Turned (field_at d j 2) x
    verified_only v = behind_only u.saddr u.daddr 17 d (omega arith) (omega arith) bytes sums j x ch v

    -- and so is good only then,
    only : check_answer (ip_header y.header ++ e) ≡ gives Good → Turned (field_at d j 2) x
    only g =
        let after = (past (udp_cut e) 14 _ Good (sym (check e (renewed_length j x d)) ∙ g)).1 in
        verified_only (go (eqb (field_at e 6 2) 0) verified after)
      where
        go : (z v : Bool) → cond z (gives NoChecksum) (unless_bad v) ≡ gives Good → v ≡ true
        go true v q = let z : ◌≡◌ {A = ℕ} 0 1 = cc in absurd (omega arith)
        go false v q = (held v 15 Good Good q).0

    -- and if it turned it is, where the word is not the checksum's: the length's is neither 0000 nor ffff, and is kept.
    turned : (6 ≡ j → ⊥) → Turned (field_at d j 2) x → check_answer (ip_header y.header ++ e) ≡ gives Good
    turned else q =
        let neither : Neither (field_at d 4 2) = (omega (arith, length_field_lem, size), omega (arith, length_field_lem, size, few)) in
        let cut = uncut e (renewed_length j x d) (turned_keeps d 4 2 j x x (omega arith) refl ch.even neither q) in
        let some = summed e (word_kept d 6 2 j x (omega arith) refl ch.even else) in
        let v = behind_turned u.saddr u.daddr 17 d (omega arith) (omega arith) bytes sums j x ch q in
        check e (renewed_length j x d) ∙ simp (cut, some, eq-eqb _ 65535 v)

  -- Another checksum that is not 0 is seen,
  sum_seen : (x : ℕ) → WordChange d 6 x → (x ≡ 0 → ⊥) → check_answer (ip_header y.header ++ renewed 6 x d) ≡ refused 15
  sum_seen x ch none =
      let e : List ℕ = renewed 6 x d in
      let cut = uncut e (renewed_length 6 x d) (field_before 4 2 6 x d (omega arith)) in
      let here = ne_eqb (field_at e 6 2) 0 (λ z. none (sym (field_here 6 x d ch.within ch.number) ∙ z)) in
      let v = fails (verified 6 x ch) (λ q. go (verified_only 6 x ch q)) in
      check e (renewed_length 6 x d) ∙ simp (cut, here, v)
    where
      go : Turned (field_at d 6 2) x → ⊥
      go (inl (z, f)) = omega (arith, sum_field, sum_range.0)
      go (inr (f, z)) = none z

  -- and 0 is read as none.
  none_said : check_answer (ip_header y.header ++ renewed 6 0 d) ≡ gives NoChecksum
  none_said =
      let e : List ℕ = renewed 6 0 d in
      let cut = uncut e (renewed_length 6 0 d) (field_before 4 2 6 0 d (omega arith)) in
      let here = eq-eqb (field_at e 6 2) 0 (field_here 6 0 d (omega (arith, size)) (omega arith)) in
      check e (renewed_length 6 0 d) ∙ simp (cut, here)

  -- Another odd last byte is seen.
  seen : (b : ℕ) → LastChange d b → check_answer (ip_header y.header ++ set d (length d - 1) b) ≡ refused 15
  seen b ch =
      let k : ℕ = length d - 1 in
      let e : List ℕ = set d k b in
      let cut = uncut e (length-set d k b) (last_kept d k b 4 2 (omega (arith, size))) in
      let some = summed e (last_kept d k b 6 2 (omega (arith, size, ch.odd))) in
      let v = behind_last u.saddr u.daddr 17 d (omega arith) (omega arith) bytes sums b ch in
      check e (length-set d k b) ∙ simp (cut, some, v)

  -- With a word behind the IPv4 header changed that is not the checksum's, the datagram is good exactly if that turned.
  pub udp_word : (i x : ℕ) → 20 ≤ i → (i ≡ behind_ip + udp_sum_at → ⊥) → WordChange (packet_of (Udp u) p) i x → GoodIfTurned (packet_of (Udp u) p) i x
  unfolding udp_packet
  udp_word i x low else ch = lifted y i x low ch (λ j e c. (only j x c, turned j x c (λ q. else (omega arith))))

  -- Another checksum of the packet that is not 0 is seen.
  pub udp_sum : (x : ℕ) → WordChange (packet_of (Udp u) p) (behind_ip + udp_sum_at) x → (x ≡ 0 → ⊥)
      → check_answer (renewed (behind_ip + udp_sum_at) x (packet_of (Udp u) p)) ≡ refused 15
  unfolding udp_packet
  udp_sum x ch none = ap check_answer (word_in y 6 x) ∙ sum_seen x (change_in y 6 x ch) none

  -- One of 0 is read as none.
  pub udp_none : check_answer (renewed (behind_ip + udp_sum_at) 0 (packet_of (Udp u) p)) ≡ gives NoChecksum
  unfolding udp_packet
  udp_none = ap check_answer (word_in y 6 0) ∙ none_said

  -- Another odd last byte of the packet is seen.
  pub udp_last : (b : ℕ) → LastChange (packet_of (Udp u) p) b → LastSeen (packet_of (Udp u) p) b
  unfolding udp_packet
  udp_last b ch = lifted_last y b (omega (arith, size)) ch (seen b)
