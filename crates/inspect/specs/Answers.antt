-- What examining answers of a whole packet.
use Rattle.inspect.specs.declared.header.IpRead.{IpRead}
use Rattle.inspect.specs.declared.check.Kind.{Kind}
use Rattle.inspect.specs.declared.check.Whole.{Whole}

-- a whole packet: its header and its kind
abbrev pub whole : IpRead → Kind → Whole
whole h k = record { header = h; kind = k }
