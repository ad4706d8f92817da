pub mod CacheLaws
pub mod JoinLaws
pub mod PutLaws
mod RoomLaws
pub mod RunLaws
