-- The words that the program takes: CAR:PORT CORE:PORT LINK FRAME-BYTES, and behind these TOS TTL or nothing.
use Rattle.std.specs.Prelude.{ℕ, Bool, ◌&&◌, cond, Option, Some, None, List, eqb}
use Rattle.pkt.specs.Answers.{most_udp}
use Rattle.words.specs.Words.{value_of, is_number, is_address, address_of}
use Rattle.feed.specs.Feed.{new_feed, feed_marked, least_link, most_link}
use Rattle.lapfeed.specs.declared.setup.Setup.{Setup}

-- The first four: two addresses, a link of 28 to 65,535 bytes, and frames of 1 to 65,507.
abbrev pub are_words : List ℕ → List ℕ → List ℕ → List ℕ → Bool
are_words car core link size = is_address car && is_address core && is_number least_link most_link link && is_number 1 most_udp size

abbrev pub setup_of : List ℕ → List ℕ → List ℕ → List ℕ → Setup
setup_of car core link size = record { feed = new_feed (address_of car) (address_of core) (value_of link); size = value_of size }

abbrev pub words_in : List ℕ → List ℕ → List ℕ → List ℕ → Option Setup
words_in car core link size = cond (are_words car core link size) (Some (setup_of car core link size)) None

-- The two behind them, for document 02's T-12: numbers of 0 to 255, with which the feed of the first four is marked.
abbrev pub are_marks : List ℕ → List ℕ → Bool
are_marks tos ttl = is_number 0 255 tos && is_number 0 255 ttl

abbrev pub marked_setup : Setup → List ℕ → List ℕ → Setup
marked_setup s tos ttl = record { feed = feed_marked s.feed (record { tos = value_of tos; ttl = value_of ttl }); size = s.size }

abbrev pub marked_in : Option Setup → List ℕ → List ℕ → Option Setup
marked_in None tos ttl = None
marked_in (Some s) tos ttl = cond (are_marks tos ttl) (Some (marked_setup s tos ttl)) None

-- All words, of which there are n with the program's name: four ask for a new feed, as it is, and six for that feed marked.
abbrev pub asked_for : ℕ → List ℕ → List ℕ → List ℕ → List ℕ → List ℕ → List ℕ → Option Setup
asked_for n car core link size tos ttl =
    cond (eqb n 5) (words_in car core link size) (cond (eqb n 7) (marked_in (words_in car core link size) tos ttl) None)
