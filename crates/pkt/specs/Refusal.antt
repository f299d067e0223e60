-- The number of each refusal: documents 01 and 02, the numbered answers.
use Rattle.std.specs.Prelude.{ℕ}
use Rattle.pkt.specs.declared.refusal.Refusal.{Refusal}
use Rattle.pkt.specs.declared.refusal.Refusal.TheVariants.{
  TooLong,
  BadOffset,
  NoRoom,
  Short,
  NotIpv4,
  BadTotal,
  BadHeader,
  WrongKey,
  NotBlocks,
  TooFar,
  BadAssembly,
  OtherProtocol,
  Piece,
  Cut,
  BadSum,
  BadPart,
  BadTime,
  Reserved,
  Full,
  TooFarForSlot,
  NoPlan,
  NoChecksum,
  NotCapture,
  BadLink,
  Broken,
  TooMany,
  NoDatagram,
}

abbrev pub number_of : Refusal → ℕ
number_of TooLong = 1
number_of BadOffset = 2
number_of NoRoom = 3
number_of Short = 4
number_of NotIpv4 = 5
number_of BadTotal = 6
number_of BadHeader = 7
number_of WrongKey = 8
number_of NotBlocks = 9
number_of TooFar = 10
number_of BadAssembly = 11
number_of OtherProtocol = 12
number_of Piece = 13
number_of Cut = 14
number_of BadSum = 15
number_of BadPart = 16
number_of BadTime = 17
number_of Reserved = 18
number_of Full = 19
number_of TooFarForSlot = 20
number_of NoPlan = 21
number_of NoChecksum = 22
number_of NotCapture = 23
number_of BadLink = 24
number_of Broken = 25
number_of TooMany = 26
number_of NoDatagram = 27
