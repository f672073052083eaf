-- The command lines of `init`, `migrate`, `check`, `reload` and `show`, which only name one file.
use Rattle.std.specs.Prelude.{[], ◌∷◌, codes}
use Rattle.clap.specs.Words.{App}
use Rattle.oftp_command_line.specs.Arguments.{app_with, own_book, own_database, word}

-- the declaration of `init` to the parser
abbrev pub init_app : App
init_app = app_with (codes "init") (own_database ∷ [])

-- the declaration of `migrate` to the parser
abbrev pub migrate_app : App
migrate_app = app_with (codes "migrate") (own_database ∷ [])

-- the declaration of `check` to the parser
abbrev pub check_app : App
check_app = app_with (codes "check") (own_book ∷ [])

-- the declaration of `reload` to the parser
abbrev pub reload_app : App
reload_app = app_with (codes "reload") (own_database ∷ [])

-- the declaration of `show` to the parser
abbrev pub show_app : App
show_app = app_with (codes "show") (word (codes "in") ∷ [])
