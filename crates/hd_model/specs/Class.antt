-- What a command does, as far as memory, slots, ages, addresses and collections are concerned. Each table
-- that needs no more of a command goes by its class.
use Rattle.std.specs.Prelude.{Bool, true, false}
use Rattle.hd_model.specs.Data.{Class, Cmd}
use Rattle.hd_model.specs.declared.class.Class.TheVariants as class
use Rattle.hd_model.specs.Rows.{row_of}

-- the class of a command
abbrev pub class_of : Cmd → Class
class_of c = (row_of c).class

-- whether a command of the class may take memory: an object is made, a collection moves objects, or a search
-- keeps what it found
abbrev pub class_takes_memory : Class → Bool
class_takes_memory (class.MakesObject fields) = true
class_takes_memory (class.TakesSlot make t) = false
class_takes_memory (class.StoresTarget h t) = false
class_takes_memory (class.StoresSecondary h) = false
class_takes_memory class.Frees = false
class_takes_memory (class.GivesBack kind) = false
class_takes_memory (class.Collects n) = true
class_takes_memory (class.RepliesAddress h) = false
class_takes_memory (class.AddsEntry k v) = false
class_takes_memory (class.LooksUp k) = false
class_takes_memory (class.Searches s) = true
class_takes_memory class.Plain = false

-- whether a command of the class is a collection
abbrev pub class_collects : Class → Bool
class_collects (class.MakesObject fields) = false
class_collects (class.TakesSlot make t) = false
class_collects (class.StoresTarget h t) = false
class_collects (class.StoresSecondary h) = false
class_collects class.Frees = false
class_collects (class.GivesBack kind) = false
class_collects (class.Collects n) = true
class_collects (class.RepliesAddress h) = false
class_collects (class.AddsEntry k v) = false
class_collects (class.LooksUp k) = false
class_collects (class.Searches s) = false
class_collects class.Plain = false
