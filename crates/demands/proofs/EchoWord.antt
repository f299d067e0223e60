-- What one changed word, or the odd last byte, does to the check of an echo.
use mathlib.Core.Path.{◌≡◌, refl, sym, ◌∙◌}
use mathlib.Core.Bool.{cond}
use mathlib.Core.List.{List, ◌++◌}
use Prim.Native.Nat.{ℕ, ◌+◌, ◌-◌, ◌≤◌}
use native.Mathlib.Omega.{arith}
use lib.ListN.{length, set, length-set}
use lib.Dec.{ltb}
use borrow.Author.Tests.{le-ltb, eqb-true, eq-eqb}
use Rattle.pkt.specs.Answers.{refused, gives}
use Rattle.pkt.specs.Fields.{value, Bytes}
use Rattle.pkt.specs.Rfc1071.{sum, words, Verifies, verifies}
use Rattle.pkt.specs.Rfc791.{ip_header}
use Rattle.pkt.specs.Rfc792.{echo_header, echo_checksum, icmp_new, echo_new}
use Rattle.pkt.specs.declared.ipv4.icmp_hdr.{icmp_hdr}
use Rattle.pkt.specs.declared.ipv4.icmp_echo_hdr.{icmp_echo_hdr}
use Rattle.pkt.proofs.Headers.{echo_verifies}
use Rattle.ezpkt.specs.Build.{echo_type, echo_packet, packet_of}
use Rattle.ezpkt.specs.declared.build.IcmpEcho.{IcmpEcho}
use Rattle.ezpkt.specs.declared.build.Request.TheVariants.{Echo}
use Rattle.ezpkt.proofs.Deciding.{sized_fits}
use Rattle.inspect.specs.declared.check.Verdict.TheVariants.{Good}
use Rattle.inspect.specs.Header.{field_at}
use Rattle.inspect.specs.Check.{unless_bad, check_answer}
use Rattle.inspect.specs.Encoded.{read_of}
use Rattle.inspect.proofs.Numbers.{field_one}
use Rattle.inspect.proofs.Sent.{echo_part}
use Rattle.mending.specs.Sums.{renewed}
use Rattle.mending.proofs.Renewed.{renewed_length}
use Rattle.mending.proofs.Encoded.{echo_size, echo_bytes}
use Rattle.mending.proofs.Summing.{some_total}
use Rattle.demands.specs.Mending.{Asked}
use Rattle.demands.specs.Options.{Parts}
use Rattle.demands.specs.WrongWord.{WordChange, LastChange, Turned, GoodIfTurned, LastSeen}
use Rattle.demands.proofs.Parts.{echo_parts}
use Rattle.demands.proofs.OneWord.{only_turned, turned_verifies, last_seen, high_neither, turned_keeps}
use Rattle.demands.proofs.PartWord.{good_uncut, check_in, lifted, lifted_last}

module _ (z : IcmpEcho) (p : List ℕ) (a : Asked (Echo z) p) where
  -- its header and its part
  abbrev y : Parts
  y = echo_parts z p a.range (sized_fits 65507 28 (length p) a.room a.size a.taken).few

  abbrev d : List ℕ
  d = y.part

  abbrev i : icmp_hdr
  i = icmp_new (echo_type z.reply)

  abbrev n : icmp_echo_hdr
  n = echo_new z.seq

  abbrev c : ℕ
  c = echo_checksum i n p

  -- It is as long as its header and its payload,
  size : length d ≡ 8 + length p
  size = echo_size p c i n

  -- it verifies,
  sums : Verifies d
  sums = echo_verifies i n p a.bytes

  -- and it is bytes.
  bytes : Bytes d
  bytes = echo_bytes p c i n a.bytes

  -- The high byte of its identification, 0x1234.
  id_high : field_at d 4 1 ≡ 0x12
  unfolding field_at value echo_header
  id_high = refl

  -- The check of another part as long.
  check : (e : List ℕ) → length e ≡ length d → check_answer (ip_header y.header ++ e) ≡ cond (ltb (length e) 8) (refused 14) (unless_bad (verifies e))
  unfolding read_of
  check e same = check_in y refl e same ∙ echo_part (read_of y.header) e refl refl

  module _ (j x : ℕ) (ch : WordChange d j x) where
    abbrev e : List ℕ
    e = renewed j x d

    -- It is good only if the word turned,
    only : check_answer (ip_header y.header ++ e) ≡ gives Good → Turned (field_at d j 2) x
    only g =
        let v = good_uncut (ltb (length e) 8) (verifies e) (sym (check e (renewed_length j x d)) ∙ g) in
        only_turned j x d ch bytes sums (eqb-true (sum (words e)) 65535 v)

    -- and if it turned it is: the identification is neither 0000 nor ffff, and is left of the sum where the word is 0.
    turned : Turned (field_at d j 2) x → check_answer (ip_header y.header ++ e) ≡ gives Good
    turned q =
        let neither = high_neither d 4 0x12 (omega (arith, size)) bytes id_high (omega arith) (omega arith) in
        let kept = sym (field_one (renewed j 0 d) 4) ∙ turned_keeps d 4 1 j x 0 (omega arith) refl ch.even neither q ∙ id_high in
        let v = turned_verifies j x d ch bytes sums (some_total (renewed j 0 d) 4 (omega (arith, kept))) q in
        let long = le-ltb (length e) 8 (omega (arith, renewed_length j x d, size)) in
        check e (renewed_length j x d) ∙ simp (long, eq-eqb _ 65535 v)

  -- Another odd last byte is seen.
  seen : (b : ℕ) → LastChange d b → check_answer (ip_header y.header ++ set d (length d - 1) b) ≡ refused 15
  seen b ch =
      let k : ℕ = length d - 1 in
      let e : List ℕ = set d k b in
      let long = le-ltb (length e) 8 (omega (arith, length-set d k b, size)) in
      check e (length-set d k b) ∙ simp (long, last_seen d b ch bytes sums)

  -- With a word behind the IPv4 header changed, the echo is good exactly if that turned.
  pub echo_word : (i x : ℕ) → 20 ≤ i → WordChange (packet_of (Echo z) p) i x → GoodIfTurned (packet_of (Echo z) p) i x
  unfolding echo_packet
  echo_word i x low ch = lifted y i x low ch (λ j e c. (only j x c, turned j x c))

  -- Another odd last byte of the packet is seen.
  pub echo_last : (b : ℕ) → LastChange (packet_of (Echo z) p) b → LastSeen (packet_of (Echo z) p) b
  unfolding echo_packet
  echo_last b ch = lifted_last y b (omega (arith, size)) ch (seen b)
