-- A list of requests as text: each line is an offset, a space and a length, and what follows a second space is passed over.
use Rattle.std.specs.Prelude.{ℕ, ◌+◌, cond, Option, Some, None, Result, Ok, Err, List, [], ◌∷◌, ltb, leb, eqb}
use Rattle.std.specs.Option.{option_map}
use Rattle.planner.specs.Steps.{look_none, look_with}
use Rattle.plan.specs.declared.lines.Fault.{Fault}
use Rattle.plan.specs.declared.lines.Fault.TheVariants as fault
use Rattle.plan.specs.declared.lines.Place.{Place}
use Rattle.plan.specs.declared.lines.Place.TheVariants as place
use Rattle.plan.specs.declared.lines.Reading.{Reading}
use Rattle.plan.specs.Words.{first_digit, more_digit}

abbrev pub space : ℕ
space = 32

abbrev pub newline : ℕ
newline = 10

-- offsets and lengths are 0 to 65,535
abbrev pub short : Option ℕ → Option ℕ
short (Some v) = cond (ltb 65535 v) None (Some v)
short None = None

abbrev pub off_of : Option ℕ → Option Place
off_of number = option_map (λ v. place.Off v) (short number)

abbrev pub len_of : ℕ → Option ℕ → Option Place
len_of off number = option_map (λ v. place.Len off v) (short number)

abbrev pub in_off : ℕ → ℕ → Option Place
in_off off c = cond (eqb c space) (Some (place.Gap off)) (off_of (more_digit off c))

abbrev pub in_len : ℕ → ℕ → ℕ → Option Place
in_len off len c =
    cond (eqb c space) (Some (place.Rest off len)) (cond (eqb c newline) (Some (place.Whole off len)) (len_of off (more_digit len c)))

abbrev pub in_rest : ℕ → ℕ → ℕ → Place
in_rest off len c = cond (eqb c newline) (place.Whole off len) (place.Rest off len)

-- where a line stands with one byte more, or nothing where it is no request
abbrev pub place_after : Place → ℕ → Option Place
place_after place.Start c = off_of (first_digit c)
place_after (place.Off off) c = in_off off c
place_after (place.Gap off) c = len_of off (first_digit c)
place_after (place.Len off len) c = in_len off len c
place_after (place.Rest off len) c = Some (in_rest off len c)
place_after (place.Whole off len) c = off_of (first_digit c)

-- before the first byte
abbrev pub read_none : ℕ → ℕ → Reading
read_none n m = record { look = look_none n m; lines = 0; place = place.Start }

-- one whole line more: the check's step over its request, for at most 8,190
abbrev pub most_lines : ℕ
most_lines = 8190

abbrev pub stands : Reading → Place → Reading
stands r p = record { look = r.look; lines = r.lines; place = p }

abbrev pub line_read : Reading → ℕ → ℕ → Result Reading Fault
line_read r off len =
    cond (leb most_lines r.lines) (Err fault.Many)
    (Ok (record { look = look_with r.look (record { off = off; len = len }); lines = r.lines + 1; place = place.Whole off len }))

abbrev pub placed : Reading → Option Place → Result Reading Fault
placed r (Some (place.Whole off len)) = line_read r off len
placed r (Some place.Start) = Ok (stands r place.Start)
placed r (Some (place.Off off)) = Ok (stands r (place.Off off))
placed r (Some (place.Gap off)) = Ok (stands r (place.Gap off))
placed r (Some (place.Len off len)) = Ok (stands r (place.Len off len))
placed r (Some (place.Rest off len)) = Ok (stands r (place.Rest off len))
placed r None = Err (fault.Bad r.lines)

-- one byte more
abbrev pub byte_read : Reading → ℕ → Result Reading Fault
byte_read r c = placed r (place_after r.place c)

-- .. and all of a text; where it cannot be read on, the rest is passed over
abbrev pub next_read : Result Reading Fault → ℕ → Result Reading Fault
next_read (Ok r) c = byte_read r c
next_read (Err f) c = Err f

unfoldable pub read_from : Result Reading Fault → List ℕ → Result Reading Fault
read_from r [] = r
read_from r (c ∷ cs) = read_from (next_read r c) cs

abbrev pub read_in : Reading → List ℕ → Result Reading Fault
read_in r w = read_from (Ok r) w
