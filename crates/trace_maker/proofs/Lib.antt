mod Planning
mod Sinking
mod Commits
mod Making
mod Gathering
mod Missing
