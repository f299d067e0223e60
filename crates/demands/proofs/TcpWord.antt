-- What one changed word, or the odd last byte, does to the check of a TCP segment.
use mathlib.Core.Path.{◌≡◌, refl, sym, ◌∙◌}
use mathlib.Core.Bool.{false, cond}
use mathlib.Core.List.{List, ◌++◌}
use Prim.Native.Nat.{ℕ, ◌+◌, ◌-◌, ◌≤◌}
use native.Mathlib.Omega.{arith}
use lib.ListN.{length, set, length-set}
use borrow.Author.Tests.{le-ltb, eq-eqb}
use Rattle.pkt.specs.Answers.{refused, gives}
use Rattle.pkt.specs.Fields.{Bytes}
use Rattle.pkt.specs.Rfc1071.{Verifies, verifies}
use Rattle.pkt.specs.Rfc768.{pseudo}
use Rattle.pkt.specs.Rfc791.{ip_header}
use Rattle.pkt.specs.Rfc9293.{tcp_checksum}
use Rattle.pkt.proofs.Headers.{tcp_verifies}
use Rattle.ezpkt.specs.Build.{tcp_hdr_of, tcp_packet, packet_of}
use Rattle.ezpkt.specs.declared.build.TcpSegment.{TcpSegment}
use Rattle.ezpkt.specs.declared.build.Request.TheVariants.{Tcp}
use Rattle.ezpkt.proofs.Deciding.{sized_fits}
use Rattle.inspect.specs.declared.check.Verdict.TheVariants.{Good}
use Rattle.inspect.specs.Header.{field_at}
use Rattle.inspect.specs.Check.{tcp_cut, unless_bad, check_answer}
use Rattle.inspect.specs.Encoded.{read_of}
use Rattle.inspect.proofs.Sent.{tcp_part}
use Rattle.inspect.proofs.Standing.{tcp_offset}
use Rattle.mending.specs.Sums.{renewed}
use Rattle.mending.proofs.Renewed.{renewed_length}
use Rattle.mending.proofs.Encoded.{tcp_size, tcp_bytes}
use Rattle.demands.specs.Mending.{Asked, Whole}
use Rattle.demands.specs.Options.{Parts}
use Rattle.demands.specs.WrongWord.{WordChange, LastChange, Turned, GoodIfTurned, LastSeen}
use Rattle.demands.proofs.Parts.{tcp_parts}
use Rattle.demands.proofs.OneWord.{behind_only, behind_turned, behind_last, high_neither, turned_keeps, last_kept}
use Rattle.demands.proofs.PartWord.{good_uncut, check_in, lifted, lifted_last}

module _ (t : TcpSegment) (p : List ℕ) (a : Asked (Tcp t) p) (whole : Whole (Tcp t)) where
  -- its header and its part
  abbrev y : Parts
  y = tcp_parts t p a.range (sized_fits 65495 40 (length p) a.room a.size a.taken).few

  abbrev d : List ℕ
  d = y.part

  abbrev c : ℕ
  c = tcp_checksum t.saddr t.daddr (tcp_hdr_of t) p

  -- It is as long as its header and its payload,
  size : length d ≡ 20 + length p
  size = tcp_size p c (tcp_hdr_of t)

  -- it verifies behind the pseudo header,
  sums : Verifies (pseudo t.saddr t.daddr 6 (length d) ++ d)
  sums = rw size (tcp_verifies t.saddr t.daddr p a.bytes (tcp_hdr_of t))

  -- it is bytes,
  bytes : Bytes d
  bytes = tcp_bytes p c (tcp_hdr_of t) a.bytes

  -- and its data offset says five words.
  offset : field_at d 12 1 ≡ 0x50
  offset = tcp_offset (tcp_hdr_of t) c p

  -- The check of another part as long.
  check : (e : List ℕ) → length e ≡ length d
      → check_answer (ip_header y.header ++ e) ≡ cond (tcp_cut e) (refused 14) (unless_bad (verifies (pseudo t.saddr t.daddr 6 (length e) ++ e)))
  unfolding read_of
  check e same = check_in y whole.0 e same ∙ tcp_part (read_of y.header) e whole.1 refl

  -- Where its data offset stays, it is not cut.
  uncut : (e : List ℕ) → length e ≡ length d → field_at e 12 1 ≡ 0x50 → tcp_cut e ≡ false
  uncut e same kept = simp (le-ltb (length e) 20 (omega (arith, size)), eq-eqb (field_at e 12 1) 0x50 kept)

  module _ (j x : ℕ) (ch : WordChange d j x) where
    abbrev e : List ℕ
    e = renewed j x d

    -- It is good only if the word turned,
    only : check_answer (ip_header y.header ++ e) ≡ gives Good → Turned (field_at d j 2) x
    only g =
        let v = good_uncut (tcp_cut e) (verifies (pseudo t.saddr t.daddr 6 (length e) ++ e)) (sym (check e (renewed_length j x d)) ∙ g) in
        behind_only t.saddr t.daddr 6 d (omega arith) (omega arith) bytes sums j x ch v

    -- and if it turned it is: the data offset's word is neither 0000 nor ffff, and is kept.
    turned : Turned (field_at d j 2) x → check_answer (ip_header y.header ++ e) ≡ gives Good
    turned q =
        let neither = high_neither d 12 0x50 (omega (arith, size)) bytes offset (omega arith) (omega arith) in
        let kept = turned_keeps d 12 1 j x x (omega arith) refl ch.even neither q in
        let cut = uncut e (renewed_length j x d) (kept ∙ offset) in
        let v = behind_turned t.saddr t.daddr 6 d (omega arith) (omega arith) bytes sums j x ch q in
        check e (renewed_length j x d) ∙ simp (cut, eq-eqb _ 65535 v)

  -- Another odd last byte is seen.
  seen : (b : ℕ) → LastChange d b → check_answer (ip_header y.header ++ set d (length d - 1) b) ≡ refused 15
  seen b ch =
      let k : ℕ = length d - 1 in
      let e : List ℕ = set d k b in
      let cut = uncut e (length-set d k b) (last_kept d k b 12 1 (omega (arith, size)) ∙ offset) in
      let v = behind_last t.saddr t.daddr 6 d (omega arith) (omega arith) bytes sums b ch in
      check e (length-set d k b) ∙ simp (cut, v)

  -- With a word behind the IPv4 header changed, the segment is good exactly if that turned.
  pub tcp_word : (i x : ℕ) → 20 ≤ i → WordChange (packet_of (Tcp t) p) i x → GoodIfTurned (packet_of (Tcp t) p) i x
  unfolding tcp_packet
  tcp_word i x low ch = lifted y i x low ch (λ j e c. (only j x c, turned j x c))

  -- Another odd last byte of the packet is seen.
  pub tcp_last : (b : ℕ) → LastChange (packet_of (Tcp t) p) b → LastSeen (packet_of (Tcp t) p) b
  unfolding tcp_packet
  tcp_last b ch = lifted_last y b (omega (arith, size)) ch (seen b)
