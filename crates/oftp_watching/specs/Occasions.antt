-- In what something happened to a file: the session or the user that its line tells.
use Rattle.std.specs.Prelude.{ℕ, Option, None, Some}
use Rattle.oftp_watching.specs.declared.occasion.Occasion.{Occasion}
use Rattle.oftp_watching.specs.declared.occasion.Occasion.TheVariants.{Session, User, Command}

-- the number of the session
abbrev pub session_of : Occasion → Option ℕ
session_of (Session number) = Some number
session_of (User user) = None
session_of Command = None

-- the number of the user who asked, where a command came over the station's socket
abbrev pub user_of : Occasion → Option ℕ
user_of (User user) = Some user
user_of (Session number) = None
user_of Command = None

-- What is done in a session is the session's, whoever asks meanwhile. Else it is a command's.
abbrev pub occasion_of : Option ℕ → Option ℕ → Occasion
occasion_of (Some number) user = Session number
occasion_of None (Some user) = User user
occasion_of None None = Command
