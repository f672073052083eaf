-- An HTTP reply.
use Rattle.std.specs.Prelude.{ℕ, ◌≡◌, ◌==◌, if◌then◌else◌, List, [], ◌++◌, length, codes, decimal}
use Rattle.std.specs.Option.{unwrap_or}
use Rattle.http.specs.StatusCode.{code_digits, reason_phrase}
use Rattle.oftp_listing.specs.declared.reply.Content.{Content}
use Rattle.oftp_listing.specs.declared.reply.Content.TheVariants.{Html, Json}
use Rattle.oftp_listing.specs.declared.state.OfficeState.{OfficeState}

-- a reply: its octets, and whether the office failed while it was made
pub record Sent : Type 0 where
  pub octets : List ℕ
  pub office : OfficeState

-- the reply has this text, and says this of the office
pub record Says (text : List ℕ) (state : OfficeState) (reply : Sent) : Type 0 where
  pub octets : reply.octets ≡ text
  pub office : reply.office ≡ state

-- the reason phrase of a status
unfoldable pub phrase_of : ℕ → List ℕ
phrase_of status = unwrap_or (reason_phrase status) []

-- the header line with the allowed method, if the status is 405
unfoldable pub allow_of : ℕ → List ℕ
allow_of status = if status == 405 then codes "Allow: GET\r\n" else []

-- the media type of a body
unfoldable pub media_type : Content → List ℕ
media_type Json = codes "application/json"
media_type Html = codes "text/html; charset=utf-8"

-- the status line and the lines of the head, up to the body
unfoldable pub head_text : ℕ → Content → (body_length : List ℕ) → List ℕ
head_text status content body_length =
    codes "HTTP/1.1 " ++ code_digits status ++ codes " " ++ phrase_of status
    ++ codes "\r\nContent-Type: " ++ media_type content
    ++ codes "\r\nContent-Length: " ++ body_length
    ++ codes "\r\nConnection: close\r\n" ++ allow_of status
    ++ codes "\r\n"

-- a whole reply
abbrev pub content_text : ℕ → Content → List ℕ → List ℕ
content_text status content body = head_text status content (decimal (length body)) ++ body

-- one with JSON
abbrev pub reply_text : ℕ → List ℕ → List ℕ
reply_text status body = content_text status Json body

-- one that shows a page
abbrev pub page_text : List ℕ → List ℕ
page_text page = content_text 200 Html page

-- a reply whose body names its status
abbrev pub error_text : ℕ → List ℕ
error_text status = reply_text status (codes "{\"error\":" ++ code_digits status ++ codes "}")
