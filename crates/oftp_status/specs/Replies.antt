-- The reply over HTTP that has a text of the picture.
use Rattle.std.specs.Prelude.{ℕ, List, [], ◌∷◌, ◌++◌, codes, decimal, length}
use Rattle.oftp_status.specs.Pieces.{with_texts}
use Rattle.oftp_status.specs.declared.reply.Media.{Media}
use Rattle.oftp_status.specs.declared.reply.Media.TheVariants.{Json, Metrics, Lines}

-- the media type
abbrev pub media_text : Media → List ℕ
media_text Json = codes "application/json"
media_text Metrics = codes "text/plain; version=0.0.4; charset=utf-8"
media_text Lines = codes "application/x-ndjson"

-- the reply 200 with this body
abbrev pub reply_text : Media → List ℕ → List ℕ
reply_text media body = with_texts []
    (codes "HTTP/1.1 200 OK\r\nContent-Type: " ∷ media_text media ∷ codes "\r\nContent-Length: " ∷ decimal (length body)
    ∷ codes "\r\nConnection: close\r\n\r\n" ∷ []) ++ body
