-- The fields as the code has them.
use Rattle.std.specs.Prelude.{List, [], ◌∷◌, length, map}
use Rattle.oftp_codec.specs.Form.{Form, Name, Digits, OneOf, DigitsIf, Any, Reserved, Return, Utf8}
use Rattle.oftp_codec.specs.Tables.{flag_words, mode_words, format_words}
use Rattle.oftp_telling.specs.Names.{Entry, Sheet}
use Rattle.oftp_telling.specs.declared.fields.FieldForm.{FieldForm}
use Rattle.oftp_telling.specs.declared.fields.FieldForm.TheVariants as forms
use Rattle.oftp_telling.specs.declared.fields.NamedField.{NamedField}
use Rattle.oftp_telling.specs.declared.fields.FieldSheet.{FieldSheet}

-- the codec's form that a form of the code is
abbrev pub form_seen : FieldForm → Form
form_seen (forms.Word w) = OneOf (length w.now) (w.now ∷ [])
form_seen forms.Flag = OneOf 1 flag_words
form_seen forms.Mode = OneOf 1 mode_words
form_seen forms.Format = OneOf 1 format_words
form_seen (forms.Name n) = Name n
form_seen (forms.Digits n) = Digits n
form_seen (forms.DigitsIf b n) = DigitsIf b n
form_seen (forms.Reserved n) = Reserved n
form_seen forms.Return = Return
form_seen (forms.Any n) = Any n
form_seen (forms.Utf8 n) = Utf8 n

-- a field of the code
abbrev pub seen : NamedField → Entry
seen f = record { name = f.name.now; at = f.at; form = form_seen f.form }

-- fields of the code
abbrev pub all_seen : List NamedField → List Entry
all_seen fs = map seen fs

-- a sheet of the code
abbrev pub sheet_seen : FieldSheet → Sheet
sheet_seen s = record { entries = all_seen s.fields.items; end = s.end }
