-- What is asked for of the station itself, over HTTP or by a command.
use Rattle.std.specs.Prelude.{ℕ, List, Option, None, Some, codes, if◌then◌else◌, nat_eq}
use Rattle.std.specs.List.{starts_with}
use Rattle.oftp_channel.specs.declared.asking.Request.{Request}
use Rattle.oftp_channel.specs.declared.asking.Request.TheVariants as request
use Rattle.oftp_listing.specs.declared.query.Method.TheVariants.{Get}
use Rattle.oftp_listing.specs.declared.query.Query.{Query}
use Rattle.oftp_listing.specs.declared.query.Query.TheVariants.{Register}
use Rattle.oftp_requests.specs.declared.sought.Sought.{Sought}
use Rattle.oftp_requests.specs.declared.sought.Sought.TheVariants.{Status, Metrics, Events, Told, Verdict}

-- the target in the first line of a head
abbrev pub sought_at : List ℕ → Option Sought
sought_at head =
    if starts_with nat_eq head (codes "GET /status ") then Some Status
    else if starts_with nat_eq head (codes "GET /metrics ") then Some Metrics
    else if starts_with nat_eq head (codes "GET /events ") then Some Events
    else None

-- only a request for no route of the register asks for it
abbrev pub sought_by : Query → List ℕ → Option Sought
sought_by (Register Get None) head = sought_at head
sought_by query head = None

-- the request of a command for it
abbrev pub sought_of : Request → Option Sought
sought_of (request.Status form) = Some (Told form)
sought_of (request.Health warn critical) = Some (Verdict (record { warn = warn; critical = critical }))
sought_of asked = None
