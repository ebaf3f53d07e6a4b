-- The games of a tournament so far.
use Rattle.std.specs.Prelude.{ℕ, ◌==◌, ◌-◌, List, [], ◌∷◌, ◌++◌, length, Bool, true, false, ◌&&◌, ℤ, Option, None, Some, is_some, option_to_list, position, slice_get, unwrap_or}
use Rattle.std.specs.List.{list_any}
use Rattle.std.specs.Str.{bytes_eq}
use Rattle.riichi_standings.specs.declared.member.Member.{Member}
use Rattle.riichi_standings.specs.declared.result.SeatResult.{SeatResult}

-- The names of the players, whose numbers are their places; what players have of games; and the players and the tables of sessions that
-- have had a game.
pub record Games : Type 0 where
  pub names : List (List ℕ)
  pub results : List SeatResult
  pub seats : List Member
  pub tables : List Member

abbrev pub no_games : Games
no_games = record { names = []; results = []; seats = []; tables = [] }

-- ---- what there is once in a session

abbrev pub is_same_member : Member → Member → Bool
is_same_member one other = one.session == other.session && one.number == other.number

-- a player or a table of a session, where both are said
abbrev pub member_of : Option ℕ → Option ℕ → Option Member
member_of (Some session) (Some number) = Some (record { session = session; number = number })
member_of session number = None

abbrev pub is_one_of : Option Member → List Member → Bool
is_one_of None members = false
is_one_of (Some member) members = list_any (is_same_member member) members

abbrev pub with_once : Option Member → List Member → List Member
with_once member members = members ++ option_to_list member

-- ---- one more game

abbrev pub are_alike : Bool → Bool → Bool
are_alike true other = other
are_alike false true = false
are_alike false false = true

abbrev pub is_said_alike : Option SeatResult → Option ℕ → Bool
is_said_alike None session = true
is_said_alike (Some last) session = are_alike (is_some last.session) (is_some session)

-- a game says its session or not, as the one before it does
abbrev pub says_alike : Games → Option ℕ → Bool
says_alike games session = is_said_alike (slice_get games.results (length games.results - 1)) session

-- a table of a session has had a game
abbrev pub has_table : Games → Option ℕ → Option ℕ → Bool
has_table games session table = is_one_of (member_of session table) games.tables

-- a player has had a game of a session
abbrev pub has_played : Games → Option ℕ → List ℕ → Bool
has_played games session name = is_one_of (member_of session (position (bytes_eq name) games.names)) games.seats

-- a game at a table of a session, where both are said
abbrev pub with_table_taken : Games → Option ℕ → Option ℕ → Games
with_table_taken games session table = record games { tables = with_once (member_of session table) games.tables }

-- the number of a player: the place of the name, or of a new one the next number
abbrev pub number_of_player : List (List ℕ) → List ℕ → ℕ
number_of_player names name = unwrap_or (position (bytes_eq name) names) (length names)

abbrev pub name_added : Option ℕ → List (List ℕ) → List ℕ → List (List ℕ)
name_added None names name = names ++ name ∷ []
name_added (Some number) names name = names

-- a new name goes last
abbrev pub with_name : List (List ℕ) → List ℕ → List (List ℕ)
with_name names name = name_added (position (bytes_eq name) names) names name

-- a player of a session, where it is said
abbrev pub seat_member : Games → List ℕ → Option ℕ → Option Member
seat_member games name session = member_of session (Some (number_of_player games.names name))

-- what one more player has of a game
abbrev pub with_seat : Games → List ℕ → Option ℕ → ℕ → ℤ → Games
with_seat games name session place points = record {
  names = with_name games.names name;
  results = games.results ++ record { player = number_of_player games.names name; session = session; place = place; points = points } ∷ [];
  seats = with_once (seat_member games name session) games.seats;
  tables = games.tables;
}
