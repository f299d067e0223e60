-- What passes the check is framed, and TCP's part is not cut: what is read there is what the definition reads.
use Rattle.std.proofs.Common.{sym, ap, ◌∙◌, arith}
use Rattle.pkt.specs.Answers.{says}
use Rattle.inspect.proofs.Reading.{framed}
use Rattle.reporting.proofs.Sorting.{never_unframed, passed_other, never_cut, passed_long, passed_own}
use Rattle.reporting.proofs.passed_class.Goals as goal

pub returns-in_default : goal.returns-in_default
returns-in_default c =
    absurd (never_unframed c.args.packet.now _ c.requires (sym c.frame.ensures ∙ ap says c.in_default.is))

pub returns-then-h-ne-TCP : goal.returns-then-h-ne-TCP
returns-then-h-ne-TCP c =
    passed_other c.args.cl c.args.sv c.args.packet.now _ c.requires (sym c.frame.ensures ∙ ap says c.in-Ok.is) c.if-h-ne-TCP.true

pub slice_bounds-part-count : goal.slice_bounds-part-count
slice_bounds-part-count c =
    let f = framed c.args.packet.now _ (sym c.frame.ensures ∙ ap says c.in-Ok.is) in
    omega arith

pub slice_bounds-part-start : goal.slice_bounds-part-start
slice_bounds-part-start c =
    let f = framed c.args.packet.now _ (sym c.frame.ensures ∙ ap says c.in-Ok.is) in
    omega arith

pub slice_bounds-part-end : goal.slice_bounds-part-end
slice_bounds-part-end c =
    let f = framed c.args.packet.now _ (sym c.frame.ensures ∙ ap says c.in-Ok.is) in
    omega arith

pub returns-in_default-read : goal.returns-in_default-read
returns-in_default-read c =
    absurd
    (never_cut c.args.packet.now _ _ c.requires (sym c.frame.ensures ∙ ap says c.in-Ok.is) c.if-h-ne-TCP.false
    (sym c.read.ensures ∙ ap says c.in_default-read.is))

pub tcp_class-requires : goal.tcp_class-requires
tcp_class-requires c =
    passed_long c.args.packet.now _ c.requires (sym c.frame.ensures ∙ ap says c.in-Ok.is) c.if-h-ne-TCP.false

pub returns : goal.returns
returns c =
    passed_own c.args.cl c.args.sv c.args.packet.now _ _ _ c.requires (sym c.frame.ensures ∙ ap says c.in-Ok.is)
    c.if-h-ne-TCP.false (sym c.read.ensures ∙ ap says c.in-Ok-read.is) c.tcp_class.ensures
